use Rattle.std.proofs.Common.{ℕ, ◌+◌, ◌*◌, ◌≤◌, length, drop}
use Rattle.abuf_raster.specs.Samples.{offsets_of}
use Rattle.abuf_raster.specs.Hits.{all_fragments}
use Rattle.abuf_fan.proofs.bound.sum_of.Given as goal

abbrev pub invariant-loop-t : goal.invariant-loop-t
invariant-loop-t l = record {
  bound : (first : ℕ) → length (all_fragments l.tris first (offsets_of l.pattern) l.region) ≤ l.sum + length (all_fragments (drop l.t-index l.tris) (first + l.t-index) (offsets_of l.pattern) l.region);
  small : l.sum ≤ l.t-index * 4194304;
}
