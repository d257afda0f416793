use Rattle.std.proofs.Common.{◌≡◌, ◌≤◌, ◌*◌, take}
use Rattle.abuf_raster.specs.Walk.{full_hits}
use Rattle.abuf_raster.proofs.tile.full_tile.Given as goal

abbrev pub invariant-loop-line : goal.invariant-loop-line
invariant-loop-line l = record {
  room : l.count ≤ 8 * l.line;
  hits : take l.count l.hits ≡ full_hits l.prim l.mask l.tile.x l.tile.w l.tile.y l.line;
}
