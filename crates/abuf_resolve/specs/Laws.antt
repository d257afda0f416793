-- What the laws say of the words at one place of a region.
use Rattle.std.specs.Prelude.{◌≡◌, ℕ, ◌+◌, ◌*◌, ◌/◌, ◌%◌, ◌<◌, ◌≤◌, nat_lt, ℤ, List, map, length, IsPermutation}
use Rattle.std.specs.List.{range_with_len}
use Rattle.abuf_num.specs.declared.plain.Paint.{Paint}
use Rattle.abuf_frame.specs.Draws.{payloads_at}
use Rattle.abuf_raster.specs.Region.{Region}
use Rattle.abuf_raster.specs.Triangle.{Triangle}
use Rattle.abuf_raster.specs.Packing.{unpacked}
use Rattle.abuf_resolve.specs.Order.{in_order}
use Rattle.abuf_resolve.specs.Colour.{colour, layers, layer_at}
use Rattle.abuf_resolve.specs.Pixel.{present, pixel_fragments}
use Rattle.abuf_resolve.specs.Sums.{region_sums}
use Rattle.abuf_resolve.specs.Words.{frame_sums, layer_of, layer_word, sample_of, sample_words}

-- The column and the row of the pixel at this place of a region.
abbrev pub x_at : Region → ℕ → ℕ
x_at r place = r.x0 + place % r.w

abbrev pub y_at : Region → ℕ → ℕ
y_at r place = r.y0 + place / r.w

-- Whatever the paints and the background, the words give the colour of sample k.
abbrev pub GiveColour : List (ℤ × ℤ) → List Triangle → ℕ → ℕ → ℕ → List ℕ → Type 0
GiveColour offsets triangles x y k words =
    (background : List ℕ) (paints : List Paint)
    → sample_of offsets background triangles paints x y words k ≡ colour offsets background triangles paints x y k

-- In ascending order the words unpack to the fragments of the pixel.
abbrev pub UnpackToFragments : List (ℤ × ℤ) → List Triangle → ℕ → ℕ → List ℕ → Type 0
UnpackToFragments offsets triangles x y words = map unpacked (in_order nat_lt words) ≡ pixel_fragments offsets triangles x y

-- In each sample, in order, they are the words of the primitives that cover it, from the lowest to the topmost.
abbrev pub AreLayers : List (ℤ × ℤ) → List Triangle → ℕ → ℕ → List ℕ → Type 0
AreLayers offsets triangles x y words =
    (k : ℕ) → k < length offsets
    → in_order nat_lt (sample_words offsets triangles x y k words) ≡ map (layer_word offsets triangles x y k) (layers offsets triangles x y k)

-- There they tell these primitives' numbers and depth keys.
abbrev pub TellLayers : List (ℤ × ℤ) → List Triangle → ℕ → ℕ → List ℕ → Type 0
TellLayers offsets triangles x y words =
    (k : ℕ) → k < length offsets
    → map layer_of (in_order nat_lt (sample_words offsets triangles x y k words)) ≡ map (layer_at offsets triangles x y k) (layers offsets triangles x y k)

-- How many primitives are present in each pixel of a region, by ascending place.
abbrev pub counts : List (ℤ × ℤ) → List Triangle → Region → List ℕ
counts offsets triangles r = map (λ place. length (present offsets triangles (x_at r place) (y_at r place))) (range_with_len 0 (r.w * r.h))

-- The sums that the lists of a frame give are those of the pixels of the region.
abbrev pub GiveRegionSums : List (ℤ × ℤ) → List ℕ → List Triangle → List Paint → Region → List (List ℕ) → Type 0
GiveRegionSums offsets background triangles paints r lists =
    frame_sums offsets background triangles paints r lists ≡ region_sums offsets background triangles paints r

-- However the fragments are ordered, no more than this have the place.
abbrev pub HasOneEach : List (ℕ × ℕ) → ℕ → ℕ → Type 0
HasOneEach fragments place most = (entries : List (ℕ × ℕ)) → IsPermutation entries fragments → length (payloads_at place entries) ≤ most
