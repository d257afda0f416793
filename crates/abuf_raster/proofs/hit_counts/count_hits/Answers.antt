use Rattle.std.proofs.Common.{◌≡◌, ◌+◌, ◌*◌, ◌≤◌, arith, ap, length, List, []}
use Rattle.std.proofs.lemmas.List.Sorted.{length_permutation}
use Rattle.abuf_raster.specs.declared.region.Hit.{Hit}
use Rattle.abuf_raster.specs.Samples.{offsets_of}
use Rattle.abuf_raster.specs.Hits.{hits, hit_at}
use Rattle.abuf_raster.specs.TilesLeft.{hits_left}
use Rattle.abuf_raster.proofs.Pieces.{left_none}
use Rattle.abuf_raster.proofs.Hits.{hits_few}
use Rattle.abuf_raster.proofs.Counts.{counts_alike}
use Rattle.abuf_raster.proofs.hit_counts.count_hits.Goals as goal
use Rattle.abuf_raster.proofs.hit_counts.count_hits.Goals.{After-count_next}

pub loop-tiles-init : goal.loop-tiles-init
loop-tiles-init c = record {
  tiles = c.new-tiles.ensures.tiles;
  count = omega (arith, length_permutation (hits_left c.new-tiles.result) (hits c.args.t.now 0 (offsets_of c.args.pattern) c.args.region) c.new-tiles.ensures.hits);
}

-- No more are counted than the region has pixels.
in_region : (c : After-count_next) → c.loop-tiles.count + c.count_next.result ≤ c.args.region.w * c.args.region.h
in_region c =
    omega (arith, c.loop-tiles.invariant.count, c.count_next.ensures.count, hits_few (hit_at c.args.t.now 0 (offsets_of c.args.pattern) c.args.region) (c.args.region.w * c.args.region.h) 0)

pub overflow_cast-count : goal.overflow_cast-count
overflow_cast-count c = omega (arith, in_region c, c.region_law.ensures.not_large)

pub overflow_add-count : goal.overflow_add-count
overflow_add-count c = omega (arith, in_region c, c.region_law.ensures.not_large)

pub returns-clause-count : goal.returns-clause-count
returns-clause-count c = λ prim.
    let w = c.loop-tiles.tiles in
    let none : hits_left w ≡ [] = left_none w.triangle w.prim (offsets_of w.pattern) w.first w.x w.end_x w.y w.end_y (c.is_done.ensures.0 c.loop-tiles-test.false) in
    omega (arith, c.loop-tiles.invariant.count, ap (λ (hs : List Hit). length hs) none, counts_alike c.args.t.now prim 0 (offsets_of c.args.pattern) c.args.region)

pub returns-clause-few : goal.returns-clause-few
returns-clause-few c = omega (arith, c.loop-tiles.invariant.count, hits_few (hit_at c.args.t.now 0 (offsets_of c.args.pattern) c.args.region) (c.args.region.w * c.args.region.h) 0)
