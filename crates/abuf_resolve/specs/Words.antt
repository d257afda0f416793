-- The words of a pixel's fragments, and the colours that they give.
use Rattle.std.specs.Prelude.{◌≡◌, ℕ, ◌+◌, ◌*◌, ◌/◌, ◌%◌, ◌<◌, ◌^◌, ◌==◌, Bool, true, not, if◌then◌else◌, nat_lt, ℤ, List, [], ◌∷◌, ◌++◌, map, length, slice_index_or, Contains, IsPermutation}
use Rattle.std.specs.Int.{bit_at}
use Rattle.std.specs.List.{filter, range_with_len, All}
use Rattle.abuf_num.specs.declared.plain.Paint.{Paint}
use Rattle.abuf_num.specs.declared.plain.PixelSum.{PixelSum}
use Rattle.abuf_frame.specs.Draws.{payloads_at}
use Rattle.abuf_raster.specs.Region.{Region}
use Rattle.abuf_raster.specs.Triangle.{Triangle}
use Rattle.abuf_raster.specs.Coverage.{covers}
use Rattle.abuf_raster.specs.Depth.{depth_key}
use Rattle.abuf_raster.specs.Packing.{unpacked}
use Rattle.abuf_resolve.specs.Order.{in_order}
use Rattle.abuf_resolve.specs.Over.{layered, composite_over}
use Rattle.abuf_resolve.specs.Colour.{triangle_at, paint_at}
use Rattle.abuf_resolve.specs.Sums.{summed}

-- ---- the words of one sample
-- A fragment in one sample, as a word: its depth key there, and its primitive number. Ascending words go from the farthest to
-- the nearest, and at equal keys from the lower number to the higher.
abbrev pub depth_word : ℕ → ℕ → ℕ
depth_word depth prim = depth * 2 ^ 24 + prim

-- The word of primitive n in sample k of pixel (x, y).
abbrev pub layer_word : List (ℤ × ℤ) → List Triangle → ℕ → ℕ → ℕ → ℕ → ℕ
layer_word offsets triangles x y k n = depth_word (depth_key (triangle_at triangles n) offsets x y k) n

abbrev pub prim_of : ℕ → ℕ
prim_of word = word % 2 ^ 24

-- What a word of one sample tells.
abbrev pub layer_of : ℕ → ℕ × ℕ
layer_of word = (prim_of word, word / 2 ^ 24)

-- A word of one sample, of one of n primitives.
pub record IsDepthWord (n word : ℕ) : Type 0 where
  pub fits : word < 2 ^ 48
  pub known : prim_of word < n

-- The paint of the word's primitive.
abbrev pub paint_of : List Paint → ℕ → Paint
paint_of paints word = paint_at paints (prim_of word)

-- The paints of the words, laid over the background in the order of the list.
abbrev pub folded : List ℕ → List Paint → List ℕ → List ℕ
folded background paints words = layered background (map (paint_of paints) words)

-- The paint of the word's primitive lets nothing through.
abbrev pub hides : List Paint → ℕ → Bool
hides paints word = (paint_of paints word).alpha == 65535

-- The word isn't below the least.
abbrev pub reaches : ℕ → ℕ → Bool
reaches least word = not (nat_lt word least)

-- The words that may be seen among all words of a sample: those from the least on are the same in both lists. The least is 0,
-- or it is one of all words, and hides what lies under it.
pub record AreSeen (paints : List Paint) (all seen : List ℕ) (least : ℕ) : Type 0 where
  pub same : filter (reaches least) seen ≡ filter (reaches least) all
  pub there : 0 < least → Contains all least
  pub hiding : 0 < least → hides paints least ≡ true

-- With one word more, of all words of whatever sample has these as the seen ones, those are seen, from `next` on.
abbrev pub StillSeen : List Paint → ℕ → List ℕ → List ℕ → ℕ → ℕ → Type 0
StillSeen paints word old new least next = (all : List ℕ) → AreSeen paints all old least → AreSeen paints (all ++ word ∷ []) new next

-- Whatever the paints are, and what lies under all, these words give the colour of a sample in which those are seen.
abbrev pub GiveSameColour : List ℕ → ℕ → List ℕ → Type 0
GiveSameColour seen least words =
    (paints : List Paint) (all under : List ℕ) → AreSeen paints all seen least → folded under paints words ≡ folded under paints (in_order nat_lt all)

-- ---- the words of one pixel
-- The fragment of this word has sample k.
abbrev pub has_sample : ℕ → ℕ → Bool
has_sample k word = bit_at (unpacked word).mask k == 1

-- The fragment of this word, in sample k of pixel (x, y).
abbrev pub sample_word : List (ℤ × ℤ) → List Triangle → ℕ → ℕ → ℕ → ℕ → ℕ
sample_word offsets triangles x y k word = layer_word offsets triangles x y k (unpacked word).prim

-- The fragments of these words that have sample k, in that sample.
abbrev pub sample_words : List (ℤ × ℤ) → List Triangle → ℕ → ℕ → ℕ → List ℕ → List ℕ
sample_words offsets triangles x y k words = map (sample_word offsets triangles x y k) (filter (has_sample k) words)

-- The colour of sample k: the fragments that have it, ordered by their depth keys there and their numbers, laid over the
-- background.
abbrev pub sample_of : List (ℤ × ℤ) → List ℕ → List Triangle → List Paint → ℕ → ℕ → List ℕ → ℕ → List ℕ
sample_of offsets background triangles paints x y words k =
    folded background paints (in_order nat_lt (sample_words offsets triangles x y k words))

-- The sums over the samples of pixel (x, y).
abbrev pub pixel_sum : List (ℤ × ℤ) → List ℕ → List Triangle → List Paint → ℕ → ℕ → List ℕ → PixelSum
pixel_sum offsets background triangles paints x y words =
    summed (sample_of offsets background triangles paints x y words) (length offsets)

-- The primitive of the fragment of this word has a paint.
abbrev pub IsPainted : List Paint → ℕ → Type 0
IsPainted paints word = (unpacked word).prim < length paints

-- A colour with the paint of the fragment of this word laid over it, where that has sample k.
abbrev pub with_fragment : List Paint → ℕ → List ℕ → ℕ → List ℕ
with_fragment paints k under word = if has_sample k word then composite_over under (paint_at paints (unpacked word).prim) else under

-- A word of a fragment of one of these triangles in pixel (x, y): its mask has only samples that the triangle covers there.
pub record IsFragmentAt (offsets : List (ℤ × ℤ)) (triangles : List Triangle) (x y word : ℕ) : Type 0 where
  pub fits : word < 2 ^ 40
  pub known : (unpacked word).prim < length triangles
  pub covered : (k : ℕ) → k < length offsets → has_sample k word ≡ true → covers (triangle_at triangles (unpacked word).prim) offsets x y k ≡ true

-- ---- the lists of a frame
-- The sums of the pixel at this place of a region.
abbrev pub place_sum : List (ℤ × ℤ) → List ℕ → List Triangle → List Paint → Region → List (List ℕ) → ℕ → PixelSum
place_sum offsets background triangles paints r lists place =
    pixel_sum offsets background triangles paints (r.x0 + place % r.w) (r.y0 + place / r.w) (slice_index_or lists place [])

-- The sums of the pixels of a region, by ascending place, from the lists of a frame.
abbrev pub frame_sums : List (ℤ × ℤ) → List ℕ → List Triangle → List Paint → Region → List (List ℕ) → List PixelSum
frame_sums offsets background triangles paints r lists =
    map (place_sum offsets background triangles paints r lists) (range_with_len 0 (r.w * r.h))

-- Each list holds words of fragments in its pixel of the region.
abbrev pub AreFragmentLists : List (ℤ × ℤ) → List Triangle → Region → List (List ℕ) → Type 0
AreFragmentLists offsets triangles r lists =
    (p : ℕ) → p < length lists → All (IsFragmentAt offsets triangles (r.x0 + p % r.w) (r.y0 + p / r.w)) (slice_index_or lists p [])

-- The lists hold these fragments, each of which is a place and a word: entries are the fragments in some order, and the
-- list of each place has the words of the entries there, in an order of its own.
pub record AreListsOf (fragments : List (ℕ × ℕ)) (lists : List (List ℕ)) : Type 0 where
  pub entries : List (ℕ × ℕ)
  pub drawn : IsPermutation entries fragments
  pub each : (p : ℕ) → p < length lists → IsPermutation (slice_index_or lists p []) (payloads_at p entries)

-- The words are those of the fragments at this place: entries are the fragments in some order, and the words are those of
-- the entries there, in an order of their own.
pub record AreWordsAt (fragments : List (ℕ × ℕ)) (place : ℕ) (words : List ℕ) : Type 0 where
  pub entries : List (ℕ × ℕ)
  pub drawn : IsPermutation entries fragments
  pub here : IsPermutation words (payloads_at place entries)
