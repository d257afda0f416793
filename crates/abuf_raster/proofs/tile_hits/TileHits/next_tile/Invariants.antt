use Rattle.std.proofs.Common.{◌≡◌, length}
use Rattle.abuf_raster.specs.TilesLeft.{hits_left, work_left, IsTiles}
use Rattle.abuf_raster.proofs.tile_hits.TileHits.next_tile.Given as goal

abbrev pub invariant-loop-self : goal.invariant-loop-self
invariant-loop-self l = record {
  tiles : IsTiles l.self-inside.tiles;
  long : length l.hits ≡ 64;
  left : hits_left l.self-inside.tiles ≡ l.fn.self;
}

abbrev pub decreases-loop-self : goal.decreases-loop-self
decreases-loop-self l = work_left l.self-inside.tiles
