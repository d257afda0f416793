use Rattle.std.proofs.Common.{◌≡◌, ◌≤◌, ◌∙◌, ℕ, List, length, take, drop, ◌++◌, ap, ap₂, subst, sym, arith}
use Rattle.std.specs.List.Sorted.{IsPermutation}
use Rattle.std.proofs.Math.Seq.{take-append_seam}
use Rattle.abuf_frame.specs.declared.view.View.{View}
use Rattle.abuf_frame.specs.declared.view.Entry.{Entry}
use Rattle.abuf_frame.specs.Views.{IsWhole, IsSettled, lost}
use Rattle.abuf_frame.specs.Draws.{Adds, pairs, payloads_at}
use Rattle.abuf_picture.specs.Picture.{fragments}
use Rattle.abuf_picture.specs.Drawn.{found}
use Rattle.abuf_picture.proofs.Sights.{seen}
use Rattle.abuf_picture.proofs.pixel_view.draw_and_look.Goals as goal

pub returns : goal.returns
returns g c =
    let all = fragments c.args.primitives.now.triangles.now c.args.target.now.pattern c.args.target.now.region in
    let place : ℕ = c.args.place in
    let drawn = c.in_ok-frame.ensures.filled in
    let counted : View = c.count-entries.new.self.view in
    let walk = c.look-look.ensures.walk in
    let after : List Entry = c.look-look.new.self.view.entries in
    let counted_entries : counted.entries ≡ c.in_ok-frame.pass.view.entries = ap (λ (v : View). v.entries) c.count-entries.ensures.view in
    let same : after ≡ counted.entries = ap (λ (v : View). v.entries) walk.1 in
    let adds : Adds all counted.entries = subst (Adds all) (sym counted_entries) drawn.drawn in
    let whole = subst IsWhole (sym c.count-entries.ensures.view) drawn.whole in
    let settled = subst IsSettled (sym c.count-entries.ensures.view) drawn.settled in
    record {
      count = c.count-entries.ensures.whole drawn.whole ∙ drawn.drawn.count;
      seen = λ enough.
          let none : lost counted.entries ≡ 0 = subst (λ (es : List Entry). lost es ≡ 0) same (c.close_drawn.ensures.kept enough) in
          let carried : IsPermutation (pairs counted.entries) all = adds.carried none in
          let room : length (payloads_at place (pairs counted.entries)) ≤ length c.deref_mut.result.now =
          omega (arith, c.one_each_law.ensures (pairs counted.entries) carried, c.deref_mut.ensures.len, c.in_ok-words.ensures.len) in
          let words : IsPermutation (take (found c.look-look.result (length c.deref_mut.result.now)) c.look-look.new.out) (payloads_at place (pairs counted.entries)) =
          seen place counted c.deref_mut.result.now c.look-look.new.out walk.0 c.look-look.result walk.2 whole settled (c.look-look.ensures.linked whole settled) room in
          let left : c.truncate.new.self.items ≡ take (found c.look-look.result (length c.deref_mut.result.now)) c.look-look.new.out =
          c.truncate.ensures.items
          ∙ ap₂ (λ (n : ℕ) (xs : List ℕ). take n xs) (c.found-count.ensures ∙ ap (found c.look-look.result) (c.len-room.ensures ∙ sym c.deref_mut.ensures.len))
          (ap (λ (n : ℕ). take n (c.look-look.new.out ++ drop (length c.look-look.new.out) c.in_ok-words.words.items)) (sym (walk.2.written.0 ∙ c.deref_mut.ensures.len))
          ∙ take-append_seam c.look-look.new.out (drop (length c.look-look.new.out) c.in_ok-words.words.items)) in
          record {
            entries = pairs counted.entries;
            drawn = carried;
            here = subst (λ (xs : List ℕ). IsPermutation xs (payloads_at place (pairs counted.entries))) (sym left) words;
          };
      frame = c.close_drawn.ensures.frame;
    }
