use Rattle.std.proofs.Common.{◌≤◌, ◌≡◌, ℕ, List, arith, ap, sym, ◌∙◌, subst, length}
use Rattle.abuf_raster.specs.declared.region.Hit.{Hit}
use Rattle.abuf_raster.specs.Samples.{pixel_centre}
use Rattle.abuf_raster.specs.Values.{values_at}
use Rattle.abuf_raster.specs.TrioNumbers.{numbers_of}
use Rattle.abuf_raster.specs.Walk.{block_hits}
use Rattle.abuf_raster.proofs.Changes.{rejected, room_down, step_down}
use Rattle.abuf_raster.proofs.Counts.{block_count, block_few}
use Rattle.abuf_raster.proofs.hit_counts.max_in_tile.Goals as goal

pub returns-then-rejects-clause-bound : goal.returns-then-rejects-clause-bound
returns-then-rejects-clause-bound g c = λ o n is.
    let s = c.values_at-start in
    let none = rejected c.args.t.now n o c.args.tile (numbers_of g.V.Width.number s.result) (numbers_of g.V.Width.number c.args.setup.now.samples.max) c.requires.positive c.requires.tile s.ensures.value is.samples.high (sym c.rejects.ensures ∙ c.if-rejects.true) in
    omega (arith, ap (λ (hs : List Hit). length hs) none)

pub returns-then-accepts-clause-bound : goal.returns-then-accepts-clause-bound
returns-then-accepts-clause-bound g c = λ o n is. let b = c.args.tile in block_few c.args.t.now n o b.x b.w b.y b.h

pub loop-line-init : goal.loop-line-init
loop-line-init g c = record {
  at = c.values_at-start.ensures.value ∙ ap (λ (y : ℕ). values_at c.args.t.now (pixel_centre c.args.tile.x y)) (omega arith);
  few = omega arith;
  bound = λ o n is. omega arith;
}

pub plus-at-requires : goal.plus-at-requires
plus-at-requires g c =
    let in_tile = c.requires.tile in
    room_down g.V.Width.reach c.args.t.now c.args.tile.x c.args.tile.y c.loop-line.line _ _ c.loop-line.invariant.at c.changes-down.ensures c.requires.wide c.requires.near (omega arith) (omega arith)

pub loop-line-preserved : goal.loop-line-preserved
loop-line-preserved g c =
    let b = c.args.tile in
    let i = c.loop-line.invariant in
    record {
      at = c.plus-at.ensures ∙ step_down g.V.Width.reach c.args.t.now b.x b.y c.loop-line.line _ _ i.at c.changes-down.ensures;
      few = omega (arith, i.few, c.max_in_row-most.ensures.few);
      bound = λ o n is. block_count c.args.t.now n o b.x b.w b.y c.loop-line.line c.loop-line.most c.max_in_row-most.result (i.bound o n is) (c.max_in_row-most.ensures.bound o n is);
    }

pub returns-clause-bound : goal.returns-clause-bound
returns-clause-bound g c = λ o n is.
    let all : c.loop-line.line ≡ c.args.tile.h = omega arith in
    subst (λ (h : ℕ). length (block_hits c.args.t.now n o c.args.tile.x c.args.tile.w c.args.tile.y h) ≤ c.loop-line.most) all (c.loop-line.invariant.bound o n is)
