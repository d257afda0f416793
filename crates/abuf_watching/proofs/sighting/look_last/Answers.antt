use Rattle.std.proofs.Common.{◌≡◌, ◌≢◌, ◌∙◌, ℕ, List, length, take, ap, ap₂, subst, sym}
use Rattle.std.specs.List.Sorted.{IsPermutation}
use Rattle.abuf_frame.specs.Draws.{pairs, payloads_at}
use Rattle.abuf_picture.specs.Drawn.{found}
use Rattle.abuf_picture.proofs.Sights.{seen}
use Rattle.abuf_watching.proofs.sighting.look_last.Goals as goal

pub returns-clause-words : goal.returns-clause-words
returns-clause-words c = λ room.
    let walk = c.look-look.ensures.walk in
    let view = c.args.pass.now.view in
    let words : IsPermutation (take (found c.look-look.result (length c.args.out.now)) c.look-look.new.out) (payloads_at c.args.place (pairs view.entries)) =
    seen c.args.place view c.args.out.now c.look-look.new.out walk.0 c.look-look.result walk.2 c.requires.whole c.requires.settled (c.look-look.ensures.linked c.requires.whole c.requires.settled) room in
    let count : c.found-count.result ≡ found c.look-look.result (length c.args.out.now) = c.found-count.ensures ∙ ap (found c.look-look.result) walk.2.written.0 in
    subst (λ (xs : List ℕ). IsPermutation xs (payloads_at c.args.place (pairs view.entries)))
    (sym (c.from_vec.ensures ∙ (c.in_ok-words.ensures.items ∙ ap (λ (n : ℕ). take n c.look-look.new.out) count))) words
