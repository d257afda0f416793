-- The rows of an image, in chunks of 4 that follow each other.
use Rattle.std.specs.Prelude.{◌≡◌, ℕ, ◌+◌, ◌-◌, ◌*◌, ◌/◌, ◌<◌, min, List, length, slice_index_or}
use Rattle.std.specs.List.{All}
use Rattle.abuf_num.specs.declared.plain.PixelSum.{PixelSum}
use Rattle.abuf_raster.specs.Region.{Region, rectangle}
use Rattle.abuf_raster.specs.Samples.{offsets_of}
use Rattle.abuf_resolve.specs.Sums.{region_sums, IsSmall}
use Rattle.abuf_peel.specs.declared.input.PeelInput.{PeelInput}
use Rattle.abuf_peel.specs.Members.{HaveAll}

-- So many rows of the image, from row y on.
abbrev pub rows_of : PeelInput → ℕ → ℕ → Region
rows_of input y count = rectangle 0 y input.width count

-- How many chunks there are,
abbrev pub chunk_count : ℕ → ℕ
chunk_count height = (height + 3) / 4

-- and how many rows chunk n has: the last one has what is left.
abbrev pub chunk_rows : ℕ → ℕ → ℕ
chunk_rows height n = min 4 (height - 4 * n)

-- Among these are all primitives that cover a sample of a region of the image.
abbrev pub HaveAllIn : PeelInput → Region → List ℕ → Type 0
HaveAllIn input r members = HaveAll (offsets_of input.pattern) input.tris.now r members

-- The sums of the pixels of so many rows from row y on, none too great.
pub record AreSums (input : PeelInput) (y count : ℕ) (sums : List PixelSum) : Type 0 where
  pub value : sums ≡ region_sums (offsets_of input.pattern) input.background input.tris.now input.paints.now (rows_of input y count)
  pub small : All (IsSmall (length (offsets_of input.pattern))) sums

-- They are the sums of all chunks of the image, in order.
pub record AreChunks (input : PeelInput) (chunks : List (List PixelSum)) : Type 0 where
  pub count : length chunks ≡ chunk_count input.height
  pub each : (n : ℕ) (d : List PixelSum) → n < length chunks → AreSums input (4 * n) (chunk_rows input.height n) (slice_index_or chunks n d)
