-- What is resolved, and its pixels.
use Rattle.std.specs.Prelude.{◌≡◌, ℕ, ◌+◌, ◌/◌, ◌%◌, ◌<◌, List, length}
use Rattle.std.specs.List.{fold}
use Rattle.std.specs.List.Sorted.{IsNonDecreasing}
use Rattle.abuf_num.specs.declared.plain.PixelSum.{PixelSum}
use Rattle.abuf_raster.specs.Region.{Region}
use Rattle.abuf_raster.specs.Samples.{offsets_of}
use Rattle.abuf_resolve.specs.declared.shading.bounded.Bounded.{Bounded}
use Rattle.abuf_resolve.specs.declared.shading.Pixel.{Pixel}
use Rattle.abuf_resolve.specs.declared.shading.Shading.{Shading}
use Rattle.abuf_resolve.specs.Bounded.{IsBounded}
use Rattle.abuf_resolve.specs.Words.{frame_sums, pixel_sum, place_sum, sample_of, sample_word, sample_words, with_fragment, AreSeen, IsFragmentAt, StillSeen}

-- ---- one pixel
-- The word is one of a fragment of the scene in this pixel.
abbrev pub IsFragmentOf : Shading → Pixel → ℕ → Type 0
IsFragmentOf shading at = IsFragmentAt (offsets_of shading.pattern) shading.planes at.x at.y

-- The word of the bounded fragment is one of a fragment of the scene in this pixel, and its bounds hold there.
abbrev pub IsBoundedIn : Shading → Pixel → Bounded → Type 0
IsBoundedIn shading at = IsBounded (offsets_of shading.pattern) shading.planes at.x at.y

-- The colour of sample k that words of the pixel give, in any order.
abbrev pub colour_at : Shading → Pixel → List ℕ → ℕ → List ℕ
colour_at shading at words k = sample_of (offsets_of shading.pattern) shading.background shading.planes shading.paints.now at.x at.y words k

-- The sums of the samples' colours.
abbrev pub sum_at : Shading → Pixel → List ℕ → PixelSum
sum_at shading at words = pixel_sum (offsets_of shading.pattern) shading.background shading.planes shading.paints.now at.x at.y words

-- Both lists of words give the same colours.
abbrev pub SameColours : Shading → Pixel → List ℕ → List ℕ → Type 0
SameColours shading at xs ys = (k : ℕ) → k < length (offsets_of shading.pattern) → colour_at shading at xs k ≡ colour_at shading at ys k

-- Of the words of a pixel that have sample k, these may be seen there, from the least on.
abbrev pub AreSeenAt : Shading → Pixel → ℕ → List ℕ → List ℕ → ℕ → Type 0
AreSeenAt shading at k words seen least =
    AreSeen shading.paints.now (sample_words (offsets_of shading.pattern) shading.planes at.x at.y k words) seen least

-- With this word of the pixel more, which has sample k, those are seen there.
abbrev pub IsStillSeenAt : Shading → Pixel → ℕ → ℕ → List ℕ → List ℕ → ℕ → ℕ → Type 0
IsStillSeenAt shading at k word old new least next =
    StillSeen shading.paints.now (sample_word (offsets_of shading.pattern) shading.planes at.x at.y k word) old new least next

-- In each sample the words stand in order.
abbrev pub AscendIn : Shading → Pixel → List ℕ → Type 0
AscendIn shading at words =
    (k : ℕ) → k < length (offsets_of shading.pattern) → IsNonDecreasing (sample_words (offsets_of shading.pattern) shading.planes at.x at.y k words)

-- The colour of sample k where the fragments that have it are laid over the background in the order of the words.
abbrev pub composite_at : Shading → List ℕ → ℕ → List ℕ
composite_at shading words k = fold (with_fragment shading.paints.now k) shading.background words

-- ---- the pixels of a region
-- The sums of the pixel at this place, from a list of its words.
abbrev pub sum_of_list : Shading → Region → ℕ → List ℕ → PixelSum
sum_of_list shading r place words =
    pixel_sum (offsets_of shading.pattern) shading.background shading.planes shading.paints.now (r.x0 + place % r.w) (r.y0 + place / r.w) words

-- The sums of the pixel at this place, from its list in a frame.
abbrev pub sum_in : Shading → Region → List (List ℕ) → ℕ → PixelSum
sum_in shading r lists place = place_sum (offsets_of shading.pattern) shading.background shading.planes shading.paints.now r lists place

-- The sums of all pixels, by ascending place.
abbrev pub sums_of : Shading → Region → List (List ℕ) → List PixelSum
sums_of shading r lists = frame_sums (offsets_of shading.pattern) shading.background shading.planes shading.paints.now r lists
