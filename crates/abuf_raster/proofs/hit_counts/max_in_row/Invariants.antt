use Rattle.std.proofs.Common.{◌≡◌, ◌≤◌, ◌+◌, ℕ, ℤ, List, length}
use Rattle.abuf_raster.specs.Samples.{pixel_centre}
use Rattle.abuf_raster.specs.Values.{values_at}
use Rattle.abuf_raster.specs.TrioNumbers.{numbers_of}
use Rattle.abuf_raster.specs.Setup.{IsSetup}
use Rattle.abuf_raster.specs.Walk.{row_hits}
use Rattle.abuf_raster.proofs.hit_counts.max_in_row.Given as goal

abbrev pub invariant-loop-column : goal.invariant-loop-column
invariant-loop-column g l = record {
  at : numbers_of g.V.Width.number l.at ≡ values_at l.t (pixel_centre (l.fn.span.x + l._column) l.fn.span.y);
  few : l.most ≤ l._column;
  bound : (o : List (ℤ × ℤ)) (n : ℕ) → IsSetup g.V.Width.number g.V.Width.reach l.t o l.setup → length (row_hits l.t n o l.fn.span.x l._column l.fn.span.y) ≤ l.most;
}
