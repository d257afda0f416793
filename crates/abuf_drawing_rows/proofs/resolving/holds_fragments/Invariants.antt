use Rattle.std.proofs.Common.{◌<◌, ◌+◌, ◌%◌, ◌/◌, ℕ, [], slice_index_or}
use Rattle.std.specs.List.{All}
use Rattle.abuf_raster.specs.Samples.{offsets_of}
use Rattle.abuf_resolve.specs.Words.{IsFragmentAt}
use Rattle.abuf_drawing_rows.proofs.resolving.holds_fragments.Given as goal

abbrev pub invariant-loop-place : goal.invariant-loop-place
invariant-loop-place l = (p : ℕ) → p < l.place
    → All (IsFragmentAt (offsets_of l.pattern) l.tris (l.region.x0 + p % l.region.w) (l.region.y0 + p / l.region.w)) (slice_index_or l.closed.lists p [])
