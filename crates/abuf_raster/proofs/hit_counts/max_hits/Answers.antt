use Rattle.std.proofs.Common.{◌≤◌, arith, ap, length, List, ◌≡◌, []}
use Rattle.std.proofs.lemmas.List.Sorted.{length_permutation}
use Rattle.abuf_raster.specs.declared.region.Hit.{Hit}
use Rattle.abuf_raster.specs.Samples.{offsets_of}
use Rattle.abuf_raster.specs.Hits.{hits}
use Rattle.abuf_raster.specs.TilesLeft.{hits_left}
use Rattle.abuf_raster.proofs.Pieces.{left_none}
use Rattle.abuf_raster.proofs.Counts.{counts_alike}
use Rattle.abuf_raster.proofs.hit_counts.max_hits.Goals as goal

pub loop-tiles-init : goal.loop-tiles-init
loop-tiles-init c = record {
  tiles = c.new-tiles.ensures.tiles;
  few = omega (arith, c.new-tiles.ensures.pixels);
  bound = omega (arith, length_permutation (hits_left c.new-tiles.result) (hits c.args.t.now 0 (offsets_of c.args.pattern) c.args.region) c.new-tiles.ensures.hits);
}

pub returns-clause-bound : goal.returns-clause-bound
returns-clause-bound c = λ prim.
    let w = c.loop-tiles.tiles in
    let done : w.end_y ≤ w.y = c.is_done.ensures.0 c.loop-tiles-test.false in
    let none : hits_left w ≡ [] = left_none w.triangle w.prim (offsets_of w.pattern) w.first w.x w.end_x w.y w.end_y done in
    omega (arith, c.loop-tiles.invariant.bound, ap (λ (hs : List Hit). length hs) none, counts_alike c.args.t.now prim 0 (offsets_of c.args.pattern) c.args.region)
