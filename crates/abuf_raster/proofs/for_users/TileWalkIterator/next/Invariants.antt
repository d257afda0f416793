use Rattle.std.proofs.Common.{◌≡◌, ◌≤◌, ◌++◌, length, take, drop}
use Rattle.abuf_raster.specs.TilesLeft.{hits_left, work_left, IsTiles}
use Rattle.abuf_raster.proofs.for_users.TileWalkIterator.next.Given as goal

abbrev pub invariant-loop-self : goal.invariant-loop-self
invariant-loop-self l = record {
  tiles : IsTiles l.self-inside.tiles;
  within : l.self-inside.at ≤ l.self-inside.count;
  few : l.self-inside.count ≤ 64;
  long : length l.self-inside.hits ≡ 64;
  left : drop l.self-inside.at (take l.self-inside.count l.self-inside.hits) ++ hits_left l.self-inside.tiles ≡ l.fn.self;
}

abbrev pub decreases-loop-self : goal.decreases-loop-self
decreases-loop-self l = work_left l.self-inside.tiles
