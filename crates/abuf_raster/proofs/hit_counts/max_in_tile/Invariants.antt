use Rattle.std.proofs.Common.{◌≡◌, ◌≤◌, ◌+◌, ◌*◌, ℕ, ℤ, List, length}
use Rattle.abuf_raster.specs.Samples.{pixel_centre}
use Rattle.abuf_raster.specs.Values.{values_at}
use Rattle.abuf_raster.specs.TrioNumbers.{numbers_of}
use Rattle.abuf_raster.specs.Setup.{IsSetup}
use Rattle.abuf_raster.specs.Walk.{block_hits}
use Rattle.abuf_raster.proofs.hit_counts.max_in_tile.Given as goal

abbrev pub invariant-loop-line : goal.invariant-loop-line
invariant-loop-line g l = record {
  at : numbers_of g.V.Width.number l.at ≡ values_at l.t (pixel_centre l.tile.x (l.tile.y + l.line));
  few : l.most ≤ l.tile.w * l.line;
  bound : (o : List (ℤ × ℤ)) (n : ℕ) → IsSetup g.V.Width.number g.V.Width.reach l.t o l.setup → length (block_hits l.t n o l.tile.x l.tile.w l.tile.y l.line) ≤ l.most;
}
