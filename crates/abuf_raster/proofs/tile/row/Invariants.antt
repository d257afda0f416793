use Rattle.std.proofs.Common.{◌≡◌, ◌≤◌, ◌+◌, ◌++◌, take}
use Rattle.abuf_raster.specs.Samples.{offsets_of, pixel_centre}
use Rattle.abuf_raster.specs.Values.{values_at}
use Rattle.abuf_raster.specs.TrioNumbers.{numbers_of}
use Rattle.abuf_raster.specs.Walk.{row_hits}
use Rattle.abuf_raster.proofs.tile.row.Given as goal

abbrev pub invariant-loop-column : goal.invariant-loop-column
invariant-loop-column g l = record {
  at : numbers_of g.V.Width.number l.at ≡ values_at l.t (pixel_centre (l.fn.start.span.x + l.column) l.fn.start.span.y);
  room : l.count ≤ l.fn.count + l.column;
  hits : take l.count l.hits ≡ take l.fn.count l.fn.hits ++ row_hits l.t l.fn.primitive.number (offsets_of l.fn.primitive.pattern) l.fn.start.span.x l.column l.fn.start.span.y;
}
