-- What drawing an image band by band answers.
use Rattle.std.specs.Prelude.{◌≡◌, ◌≤◌, ◌<◌, ◌-◌, ℕ, List, length, Some, None, Result, Ok, Err}
use Rattle.std.specs.List.{All}
use Rattle.abuf_num.specs.declared.plain.Paint.{Paint}
use Rattle.abuf_num.specs.declared.plain.PixelSum.{PixelSum}
use Rattle.abuf_raster.specs.declared.pattern.Pattern.{Pattern}
use Rattle.abuf_raster.specs.Region.{whole_image}
use Rattle.abuf_raster.specs.Samples.{offsets_of}
use Rattle.abuf_raster.specs.Triangle.{Triangle}
use Rattle.abuf_resolve.specs.Sums.{IsSmall, region_sums}
use Rattle.abuf_picture.specs.declared.target.Target.{Target}
use Rattle.abuf_picture.specs.Picture.{total}
use Rattle.abuf_band.specs.Bands.{band_total, first_full}
use Rattle.abuf_band.specs.declared.fault.BandFault.{BandFault}
use Rattle.abuf_band.specs.declared.fault.BandFault.TheVariants as fault

-- An image that is drawn band by band: its size, where the samples of a pixel lie, the colour under all primitives, the number
-- of its bands, and the nodes that each of them has.
pub record Banded : Type 0 where
  pub width : ℕ
  pub height : ℕ
  pub pattern : Pattern
  pub background : List ℕ
  pub bands : ℕ
  pub nodes : ℕ

-- The fragments of each band have nodes, and these are the sums of all pixels, by ascending place.
pub record AreImageSums (triangles : List Triangle) (paints : List Paint) (image : Banded) (sums : List PixelSum) : Type 0 where
  pub none_full : first_full triangles image.pattern image.width image.height image.bands image.nodes ≡ None
  pub are : sums ≡ region_sums (offsets_of image.pattern) image.background triangles paints (whole_image image.width image.height)
  pub small : All (IsSmall (length (offsets_of image.pattern))) sums

-- The band of this number, from 1, is the first whose fragments are more than the nodes, and has so many.
pub record IsFirstFull (triangles : List Triangle) (image : Banded) (band fragments nodes : ℕ) : Type 0 where
  pub from_one : 1 ≤ band
  pub first : first_full triangles image.pattern image.width image.height image.bands image.nodes ≡ Some (band - 1)
  pub count : fragments ≡ band_total triangles image.pattern image.width image.height image.bands (band - 1)
  pub nodes_are : nodes ≡ image.nodes

-- The sums of the image, or the first band that is full. That memory ran out says nothing of either.
abbrev pub IsAnswer : List Triangle → List Paint → Banded → Result (List PixelSum) BandFault → Type 0
IsAnswer triangles paints image (Ok sums) = AreImageSums triangles paints image sums
IsAnswer triangles paints image (Err (fault.Full band fragments nodes)) = IsFirstFull triangles image band fragments nodes
IsAnswer triangles paints image (Err fault.Memory) = Unit {0}

-- ---- one band

-- The fragments have nodes, and these are the sums of the target's pixels.
pub record AreSums (triangles : List Triangle) (paints : List Paint) (target : Target) (sums : List PixelSum) : Type 0 where
  pub fit : total triangles target.pattern target.region ≤ target.nodes
  pub are : sums ≡ region_sums (offsets_of target.pattern) target.background triangles paints target.region
  pub small : All (IsSmall (length (offsets_of target.pattern))) sums

-- The fragments are so many, and more than the nodes.
pub record IsFull (triangles : List Triangle) (target : Target) (fragments nodes : ℕ) : Type 0 where
  pub count : fragments ≡ total triangles target.pattern target.region
  pub more : nodes < fragments
  pub nodes_are : nodes ≡ target.nodes

-- The sums of one band, or that it is full, by its number.
abbrev pub IsBandAnswer : List Triangle → List Paint → Target → ℕ → Result (List PixelSum) BandFault → Type 0
IsBandAnswer triangles paints target number (Ok sums) = AreSums triangles paints target sums
IsBandAnswer triangles paints target number (Err (fault.Full band fragments nodes)) = (band ≡ number) × IsFull triangles target fragments nodes
IsBandAnswer triangles paints target number (Err fault.Memory) = Unit {0}
