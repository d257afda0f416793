use Rattle.std.proofs.Common.{rules, ◌+◌, ◌<◌, ℕ, List, [], length, slice_index_or, take, refl, arith}
use Rattle.abuf_peel.specs.Seen.{seen_of}
use Rattle.abuf_peel.specs.Taking.{marked_by, painted_by}
use Rattle.abuf_peel.proofs.Taken.{all_known, all_take}
use Rattle.abuf_peel.proofs.Writes.{rewrites_at, rewrites_more, rewrites_one}
use Rattle.abuf_peel.proofs.offering.Samples.take.Goals as goal

pub painted_by-requires-clause-known : goal.painted_by-requires-clause-known
painted_by-requires-clause-known c =
    let a = c.args in
    all_known a.drawn.now.tris.now a.drawn.now.paints.now (seen_of a.self.now a.from.now a.colours.now) a.best.now c.requires.next a.drawn.now.painted c.loop-i.i (omega arith)

pub loop-i-preserved : goal.loop-i-preserved
loop-i-preserved c =
    let a = c.args in
    let i : ℕ = c.loop-i.i in
    let here : c.loop-i.i < length c.loop-i.from = omega (arith, c.loop-i.invariant.marks.size, c.requires.next.size, c.requires.from) in
    let there : c.loop-i.i < length c.loop-i.colours = omega (arith, c.loop-i.invariant.colours.size, c.requires.next.size, c.requires.colours) in
    let f : ℕ → ℕ → ℕ = λ j from. marked_by (take a.count (slice_index_or a.best.now j [])) from in
    let g : ℕ → List ℕ → List ℕ = λ j under. painted_by a.drawn.now.paints.now (take a.count (slice_index_or a.best.now j [])) under in
    record {
      marks = rewrites_more f 0 i (i + 1) a.from.now c.loop-i.from _ (omega arith) (omega arith) c.loop-i.invariant.marks (rewrites_one f i c.loop-i.from c.marked_by.result 0 here c.marked_by.ensures);
      colours = rewrites_more g 0 i (i + 1) a.colours.now c.loop-i.colours _ (omega arith) (omega arith) c.loop-i.invariant.colours (rewrites_one g i c.loop-i.colours c.painted_by.result [] there c.painted_by.ensures);
      none = search rules;
      some = search rules;
    }

pub returns-clause-takes : goal.returns-clause-takes
returns-clause-takes c =
    let a = c.args in
    all_take a.drawn.now.tris.now a.drawn.now.paints.now (seen_of a.self.now a.from.now a.colours.now) a.best.now c.requires.next a.count c.loop-i.from c.loop-i.colours
    c.requires.count (omega (arith, a.drawn.now.few)) c.requires.from c.requires.colours
    (rewrites_at (λ j f. marked_by (take a.count (slice_index_or a.best.now j [])) f) 0 c.loop-i.i 0 (length a.from.now) a.from.now c.loop-i.from refl (omega (arith, c.requires.next.size, c.requires.from)) c.loop-i.invariant.marks)
    (rewrites_at (λ j under. painted_by a.drawn.now.paints.now (take a.count (slice_index_or a.best.now j [])) under) 0 c.loop-i.i 0 (length a.colours.now) a.colours.now c.loop-i.colours refl (omega (arith, c.requires.next.size, c.requires.colours)) c.loop-i.invariant.colours)
