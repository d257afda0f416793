-- What was summed of some pixels.
use Rattle.std.specs.Prelude.{◌≡◌, ℕ, ◌-◌, ◌*◌, ◌/◌, ◌%◌, ◌<◌, ◌≤◌, min, List, length, map, slice_index_or}
use Rattle.std.specs.List.{range_with_len, All}
use Rattle.abuf_raster.specs.Region.{Region}
use Rattle.abuf_raster.specs.Samples.{offsets_of}
use Rattle.abuf_resolve.specs.declared.shading.spans.Offset.{Offset}
use Rattle.abuf_resolve.specs.declared.shading.spans.Resolved.{Resolved}
use Rattle.abuf_resolve.specs.declared.shading.Shading.{Shading}
use Rattle.abuf_resolve.specs.Shading.{sum_in}
use Rattle.abuf_resolve.specs.Lengths.{maximum, lengths_at}
use Rattle.abuf_resolve.specs.Sums.{IsSmall}
use Rattle.abuf_resolve.specs.Words.{AreFragmentLists}
use Rattle.abuf_frame.specs.Closing.{Ended}

-- So far does the pixel at this place lie from the corner of a region of this width.
pub record IsOffset (width place : ℕ) (offset : Offset) : Type 0 where
  pub column : offset.column ≡ place % width
  pub row : offset.row ≡ place / width
  pub inside : offset.column < width
  pub few : offset.row ≤ place

-- The sums of the pixels at these places, and the greatest of the lengths of their lists.
pub record AreSpanSums (shading : Shading) (r : Region) (lists : List (List ℕ)) (places : List ℕ) (span_sums : Resolved) : Type 0 where
  pub sums : span_sums.sums ≡ map (sum_in shading r lists) places
  pub small : All (IsSmall (length (offsets_of shading.pattern))) span_sums.sums
  pub longest : span_sums.longest ≡ maximum (lengths_at lists places)

-- The frame has a list for each pixel of the region, of fragments of the triangles that are drawn.
pub record CanRead (shading : Shading) (r : Region) (frame : Ended) : Type 0 where
  pub lists : length frame.lists ≡ r.w * r.h
  pub pixels : frame.pixels ≡ r.w * r.h
  pub words : AreFragmentLists (offsets_of shading.pattern) shading.planes r frame.lists

-- There are pixels for the span with this number, where each span but the last has `size` of them, and it has their sums.
abbrev pub IsSpan : Shading → Region → List (List ℕ) → ℕ → ℕ → Resolved → Type 0
IsSpan shading r lists size number span =
    (size * number < r.w * r.h) × AreSpanSums shading r lists (range_with_len (size * number) (min size (r.w * r.h - size * number))) span

-- These are the spans from the first on.
abbrev pub AreSpans : Shading → Region → List (List ℕ) → ℕ → List Resolved → Type 0
AreSpans shading r lists size spans = (k : ℕ) (d : Resolved) → k < length spans → IsSpan shading r lists size k (slice_index_or spans k d)
