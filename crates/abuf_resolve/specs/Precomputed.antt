-- What was worked out of triangles.
use Rattle.std.specs.Prelude.{◌≡◌, ◌≤◌, ℕ, List, length, map, All}
use Rattle.abuf_num.specs.declared.limits.TheConstants.{MAX_DEPTH, MAX_PRIMITIVES, MAX_THREADS}
use Rattle.abuf_raster.specs.Triangle.{Triangle}
use Rattle.abuf_raster.specs.Depth.{min_depth, max_depth}
use Rattle.abuf_resolve.specs.declared.planes.Bounds.{Bounds}
use Rattle.abuf_resolve.specs.declared.planes.Precomputed.{Precomputed}

-- The least and the greatest depth value of a triangle.
abbrev pub depth_range : Triangle → Bounds
depth_range t = record { low = min_depth t; high = max_depth t }

-- What was worked out is that of these triangles: a plane of each, and the range of its depth values.
pub record IsOf (triangles : List Triangle) (precomputed : Precomputed) : Type 0 where
  pub planes : precomputed.planes.items ≡ triangles
  pub ranges : precomputed.ranges.items ≡ map depth_range triangles
  pub small : All (λ range. range.high ≤ MAX_DEPTH) precomputed.ranges.items

-- The limits of the work on so many threads.
abbrev pub CanShare : List Triangle → ℕ → Type 0
CanShare triangles threads = (length triangles ≤ MAX_PRIMITIVES) × (1 ≤ threads) × (threads ≤ MAX_THREADS)
