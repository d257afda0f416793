use Rattle.std.proofs.Common.{◌≡◌, ◌∙◌, ◌<◌, [], ℕ, List, length, slice_index_or, sym, subst, arith}
use Rattle.std.proofs.lemmas.List.{get_or_read}
use Rattle.abuf_resolve.specs.Words.{AreWordsAt}
use Rattle.abuf_picture.specs.Picture.{fragments}
use Rattle.abuf_watching.proofs.Zipped.{words_at}
use Rattle.abuf_watching.proofs.report.push_places.Goals as goal

pub push_place-requires-clause-words : goal.push_place-requires-clause-words
push_place-requires-clause-words c =
    let all = c.args.watch.now in
    let items = fragments all.primitives.triangles.now all.target.pattern all.target.region in
    let i : ℕ = c.loop-i.i in
    let place : ℕ = slice_index_or all.places.now c.loop-i.i 0 in
    let within : c.loop-i.i < length c.args.words.now = omega (arith, c.loop-i-test.true) in
    let here : c.loop-i.i < length all.places.now = omega (arith, within, c.requires.count) in
    let same = get_or_read c.args.words.now i c.index-words-i.result within c.index-words-i.is [] in
    subst (AreWordsAt items place) (sym same ∙ sym (c.in_ok-seen.ensures.items ∙ c.as_slice.ensures)) (words_at items all.places.now c.args.words.now i [] c.requires.words here)
