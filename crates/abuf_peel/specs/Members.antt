-- The primitives that are offered to a region.
use Rattle.std.specs.Prelude.{◌≡◌, ℕ, ◌+◌, ◌<◌, ◌≤◌, ◌∷◌, [], ◌++◌, ℤ, List, length, slice_index_or}
use Rattle.std.specs.List.{All}
use Rattle.abuf_raster.specs.Region.{Region}
use Rattle.abuf_raster.specs.declared.pattern.Pattern.{Pattern}
use Rattle.abuf_raster.specs.Triangle.{Triangle}
use Rattle.abuf_raster.specs.Samples.{offsets_of}
use Rattle.abuf_resolve.specs.Colour.{covering, numbers}
use Rattle.abuf_peel.specs.Layers.{count_of, sample_at, size_of}
use Rattle.abuf_peel.specs.Next.{Sample, covering_among, left_among}

-- The sample lies in a pixel of the region.
pub record IsSampleIn (r : Region) (offsets : List (ℤ × ℤ)) (s : Sample) : Type 0 where
  pub x_low : r.x0 ≤ s.x
  pub x_high : s.x < r.x0 + r.w
  pub y_low : r.y0 ≤ s.y
  pub y_high : s.y < r.y0 + r.h
  pub known : s.k < length offsets

-- Among these are all primitives that cover a sample of the region, each once and in order.
pub record HaveAll (offsets : List (ℤ × ℤ)) (triangles : List Triangle) (r : Region) (members : List ℕ) : Type 0 where
  pub known : All (λ n. n < length triangles) members
  pub each : (s : Sample) → IsSampleIn r offsets s → covering_among offsets triangles s members ≡ covering offsets triangles s.x s.y s.k

-- Of the primitives among which members are chosen, none is left out that covers a sample of the region.
pub record Keep (offsets : List (ℤ × ℤ)) (triangles : List Triangle) (r : Region) (among members : List ℕ) : Type 0 where
  pub known : All (λ n. n < length triangles) members
  pub each : (s : Sample) → IsSampleIn r offsets s → covering_among offsets triangles s members ≡ covering_among offsets triangles s among

-- One primitive more is chosen among, and none is left out that covers a sample of the region, whatever was chosen among before.
abbrev pub KeepsOne : List (ℤ × ℤ) → List Triangle → Region → ℕ → List ℕ → List ℕ → Type 0
KeepsOne offsets triangles r n old new = (among : List ℕ) → Keep offsets triangles r among old → Keep offsets triangles r (among ++ n ∷ []) new

-- Of the primitives with these numbers, the words that the sample at an index still takes.
abbrev pub left_at : Region → Pattern → List Triangle → List ℕ → ℕ → List ℕ → List ℕ
left_at r pattern triangles from j ns = left_among (offsets_of pattern) triangles (sample_at r (size_of pattern) j) (slice_index_or from j 0) ns

-- Among these are all primitives that a sample still takes, each once and in order.
pub record HaveLeft (triangles : List Triangle) (r : Region) (pattern : Pattern) (from members : List ℕ) : Type 0 where
  pub known : All (λ n. n < length triangles) members
  pub each : (j : ℕ) → j < count_of r pattern → left_at r pattern triangles from j members ≡ left_at r pattern triangles from j (numbers triangles)
