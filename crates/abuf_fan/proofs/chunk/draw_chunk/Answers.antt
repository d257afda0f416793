use Rattle.std.proofs.Common.{arith, ◌+◌, ◌*◌, ◌≡◌, ◌∙◌, ℕ, suc, List, [], ◌∷◌, ◌++◌, length, take, drop, refl, sym, subst, ap, true≢false, append-nil, slice_index_or}
use Rattle.std.specs.List.{flat_map}
use Rattle.std.proofs.lemmas.List.{length-drop, take_all, take_more}
use Rattle.std.proofs.lemmas.Grind.{flat_map-append}
use Rattle.abuf_raster.specs.Samples.{offsets_of}
use Rattle.abuf_frame.specs.Draws.{Draws}
use Rattle.abuf_frame.proofs.Draws.{draws_credit}
use Rattle.abuf_draw.specs.Waiting.{Passes}
use Rattle.abuf_draw.proofs.Drawing.{passes_none, passes_then, passes_end}
use Rattle.abuf_fan.specs.Chunks.{fragments_of}
use Rattle.abuf_fan.proofs.Chunks.{one_more_waits, still_room, still_few}
use Rattle.abuf_fan.proofs.chunk.draw_chunk.Goals as goal

pub loop-i-init : goal.loop-i-init
loop-i-init c =
    let none = c.new-brush.ensures.none in
    let count : length c.new-brush.result.batch ≡ 0 = ap (λ (l : List (ℕ × ℕ)). length l) none in
    record {
      brush = c.new-brush.ensures.brush;
      same = refl;
      full = λ h. absurd (true≢false (sym h ∙ c.new-brush.ensures.full));
      room = omega (arith, count, c.requires.credit);
      few = omega (arith, count);
      passes = subst (λ (l : List (ℕ × ℕ)). Passes [] [] l c.args.pass.now.view c.args.pass.now.view) (sym none) (passes_none [] c.args.pass.now.view);
    }

pub draw_one-requires-clause-credit : goal.draw_one-requires-clause-credit
draw_one-requires-clause-credit c =
    let numbers = c.args.numbers.now in let at = c.loop-i.i in let inside = c.loop-i-test.true in
    let left = length-drop at numbers in let later = length-drop (at + 1) numbers in
    let one : length (drop at numbers) ≡ suc (length (drop (at + 1) numbers)) = omega arith in
    one_more_waits (length c.loop-i.brush.batch) (length (drop (at + 1) numbers)) (c.args.work.now.region.w * c.args.work.now.region.h) c.loop-i.pass.view.credit (rw one at c.loop-i.invariant.room)

pub loop-i-preserved : goal.loop-i-preserved
loop-i-preserved c =
    let i = c.loop-i.invariant in
    let numbers = c.args.numbers.now in let at = c.loop-i.i in let r = c.args.work.now.region in
    let f : ℕ → List (ℕ × ℕ) = fragments_of c.args.work.now.tris.now (offsets_of c.args.work.now.pattern) r in
    let inside = c.loop-i-test.true in
    let n : ℕ = slice_index_or numbers at 0 in
    let left = length-drop at numbers in let later = length-drop (at + 1) numbers in
    let one : length (drop at numbers) ≡ suc (length (drop (at + 1) numbers)) = omega arith in
    let more : flat_map f (take (at + 1) numbers) ≡ flat_map f (take at numbers) ++ f n =
    ap (flat_map f) (take_more numbers at 0 inside) ∙ (flat_map-append f (take at numbers) (n ∷ []) ∙ ap (λ (l : List (ℕ × ℕ)). flat_map f (take at numbers) ++ l) (append-nil (f n))) in
    let area : ℕ = r.w * r.h in let rest = length (drop (at + 1) numbers) in
    let old = length c.loop-i.brush.batch in let new = length c.draw_one.new.brush.batch in
    record {
      brush = c.draw_one.ensures.brush;
      same = c.draw_one.ensures.frame ∙ i.same;
      full = c.draw_one.ensures.full;
      room = still_room old new rest area c.loop-i.pass.view.credit c.draw_one.new.pass.view.credit (rw one at i.room) c.draw_one.ensures.few;
      few = still_few old new rest area c.args.pass.now.view.credit c.loop-i.pass.view.credit c.draw_one.new.pass.view.credit (length numbers * area) (rw one at i.few) c.draw_one.ensures.few;
      passes = subst (λ (l : List (ℕ × ℕ)). Passes [] l c.draw_one.new.brush.batch c.args.pass.now.view c.draw_one.new.pass.view) (sym more) (passes_then [] (flat_map f (take at numbers)) c.loop-i.brush.batch (f n) c.draw_one.new.brush.batch _ _ _ i.passes c.draw_one.ensures.passes);
    }

pub returns-clause-draws : goal.returns-clause-draws
returns-clause-draws c =
    let f : ℕ → List (ℕ × ℕ) = fragments_of c.args.work.now.tris.now (offsets_of c.args.work.now.pattern) c.args.work.now.region in
    let all = ap (flat_map f) (take_all c.loop-i.i c.args.numbers.now (omega arith)) in
    subst (λ (l : List (ℕ × ℕ)). Draws l c.args.pass.now.view c.flush.new.pass.view) all
    (passes_end (flat_map f (take c.loop-i.i c.args.numbers.now)) c.loop-i.brush.batch _ _ _ c.loop-i.invariant.passes c.flush.ensures.draws)

pub returns-clause-few : goal.returns-clause-few
returns-clause-few c = let i = c.loop-i.invariant in let d = draws_credit _ _ _ c.flush.ensures.draws in omega (arith, i.few, d)
