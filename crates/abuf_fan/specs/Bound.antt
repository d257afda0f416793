-- How many fragments triangles have at most.
use Rattle.std.specs.Prelude.{ℕ, ◌≤◌, ℤ, List, length, min}
use Rattle.abuf_num.specs.declared.limits.TheConstants.{MAX_PRIMITIVES, MAX_THREADS}
use Rattle.abuf_raster.specs.Region.{Region}
use Rattle.abuf_raster.specs.Triangle.{Triangle}
use Rattle.abuf_raster.specs.Hits.{all_fragments}

-- at least as many as the triangles have fragments, whatever number the first of them has, or as are enough
abbrev pub IsBound : List Triangle → List (ℤ × ℤ) → Region → (enough bound : ℕ) → Type 0
IsBound ts offsets r enough bound = (first : ℕ) → min (length (all_fragments ts first offsets r)) enough ≤ bound

-- the limits of a count by so many threads
abbrev pub CanCount : List Triangle → ℕ → Type 0
CanCount ts threads = (length ts ≤ MAX_PRIMITIVES) × (1 ≤ threads) × (threads ≤ MAX_THREADS)
