use Rattle.std.proofs.Common.{◌≤◌, ◌+◌, ◌*◌, length}
use Rattle.abuf_raster.specs.Samples.{offsets_of}
use Rattle.abuf_raster.specs.Hits.{hits}
use Rattle.abuf_raster.specs.TilesLeft.{hits_left, pixels_left, work_left, IsTiles}
use Rattle.abuf_raster.proofs.hit_counts.max_hits.Given as goal

abbrev pub invariant-loop-tiles : goal.invariant-loop-tiles
invariant-loop-tiles l = record {
  tiles : IsTiles l.tiles;
  few : l.most + pixels_left l.tiles ≤ l.fn.region.w * l.fn.region.h;
  bound : length (hits l.t 0 (offsets_of l.fn.pattern) l.fn.region) ≤ l.most + length (hits_left l.tiles);
}

abbrev pub decreases-loop-tiles : goal.decreases-loop-tiles
decreases-loop-tiles l = work_left l.tiles
