use Rattle.std.proofs.Common.{◌≡◌, ◌≤◌, ◌+◌, ◌*◌, take}
use Rattle.abuf_raster.specs.Samples.{offsets_of, pixel_centre}
use Rattle.abuf_raster.specs.Values.{values_at}
use Rattle.abuf_raster.specs.TrioNumbers.{numbers_of}
use Rattle.abuf_raster.specs.Walk.{block_hits}
use Rattle.abuf_raster.proofs.tile.tested_tile.Given as goal

abbrev pub invariant-loop-line : goal.invariant-loop-line
invariant-loop-line g l = record {
  at : numbers_of g.V.Width.number l.at ≡ values_at l.t (pixel_centre l.tile.x (l.tile.y + l.line));
  room : l.count ≤ 8 * l.line;
  hits : take l.count l.hits ≡ block_hits l.t l.primitive.number (offsets_of l.primitive.pattern) l.tile.x l.tile.w l.tile.y l.line;
}
