use Rattle.std.proofs.Common.{◌≡◌, ◌≤◌, ◌+◌, ◌++◌, take}
use Rattle.abuf_raster.specs.Walk.{full_row}
use Rattle.abuf_raster.proofs.tile.full_row.Given as goal

abbrev pub invariant-loop-column : goal.invariant-loop-column
invariant-loop-column l = record {
  room : l.count ≤ l.fn.count + l.column;
  hits : take l.count l.hits ≡ take l.fn.count l.fn.hits ++ full_row l.prim l.mask l.span.x l.column l.span.y;
}
