use Rattle.std.proofs.Common.{◌≡◌, ◌<◌, ℕ, length, slice_index_or}
use Rattle.abuf_raster.specs.Triangle.{Triangle}
use Rattle.abuf_fan.proofs.chunk.triangles_of.Given as goal

abbrev pub invariant-loop-i : goal.invariant-loop-i
invariant-loop-i l = record {
  long : length l.triangles ≡ 64;
  each : (k : ℕ) (t : Triangle) → k < l.i → slice_index_or l.triangles k t ≡ slice_index_or l.tris (slice_index_or l.numbers k 0) t;
}
