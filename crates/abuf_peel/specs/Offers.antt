-- Primitives offered to the samples of a region.
use Rattle.std.specs.Prelude.{◌≡◌, ℕ, zero, suc, ◌/◌, ◌%◌, ◌^◌, ◌<◌, min, max, Bool, false, ◌&&◌, ◌==◌, nat_lt, if◌then◌else◌, ℤ, List, [], ◌∷◌, ◌++◌, length, slice_index_or}
use Rattle.std.specs.List.{count_by}
use Rattle.std.specs.Int.{bit_at}
use Rattle.abuf_raster.specs.declared.region.Hit.{Hit}
use Rattle.abuf_raster.specs.declared.pattern.Pattern.{Pattern}
use Rattle.abuf_raster.specs.Triangle.{Triangle}
use Rattle.abuf_raster.specs.Coverage.{covers, mask}
use Rattle.abuf_raster.specs.Depth.{depth_key}
use Rattle.abuf_raster.specs.Hits.{IsHitIn}
use Rattle.abuf_raster.specs.Region.{Region, place_of}
use Rattle.abuf_raster.specs.Samples.{offsets_of}
use Rattle.abuf_resolve.specs.Colour.{numbers}
use Rattle.abuf_resolve.specs.Words.{depth_word, reaches}
use Rattle.abuf_peel.specs.Next.{Sample}
use Rattle.abuf_peel.specs.Taking.{FindsLowest}
use Rattle.abuf_peel.specs.Members.{left_at}
use Rattle.abuf_peel.specs.Layers.{size_of, sample_at, count_of}

-- Ascending words, once one more is put in its place and the last one is dropped. `below` stands before them.
abbrev pub inserted : ℕ → ℕ → List ℕ → List ℕ
inserted below word [] = []
inserted below word (here ∷ rest) = min here (max below word) ∷ inserted here word rest

-- The lowest 16 words so far, once one more is offered that counts from `from` on.
abbrev pub lowered : ℕ → ℕ → List ℕ → List ℕ
lowered from word best = if reaches from word && nat_lt word (slice_index_or best 15 0) then inserted 0 word best else best

-- The lowest 16 words so far, once one more is offered, but only to a sample that is covered.
abbrev pub offered : Bool → ℕ → ℕ → List ℕ → List ℕ
offered covered from word best = if covered then lowered from word best else best

-- The lowest 16 words so far, once one more is offered so many times.
abbrev pub offered_times : ℕ → ℕ → ℕ → List ℕ → List ℕ
offered_times zero from word best = best
offered_times (suc times) from word best = offered_times times from word (lowered from word best)

-- The word of primitive number n in a sample.
unfoldable pub word_of : Triangle → ℕ → List (ℤ × ℤ) → Sample → ℕ
word_of t n offsets s = depth_word (depth_key t offsets s.x s.y s.k) n

-- The word of primitive number n at an index of a region's samples.
abbrev pub word_at : Triangle → ℕ → Region → Pattern → ℕ → ℕ
word_at t n r pattern j = word_of t n (offsets_of pattern) (sample_at r (size_of pattern) j)

-- The triangle covers a sample.
unfoldable pub is_covered : Triangle → List (ℤ × ℤ) → Sample → Bool
is_covered t offsets s = covers t offsets s.x s.y s.k

-- The hit has sample k.
abbrev pub has_sample : Hit → ℕ → Bool
has_sample h k = bit_at h.fragment.mask k == 1

-- The word of primitive number n in sample k of a hit's pixel.
abbrev pub word_in : Triangle → ℕ → Pattern → Hit → ℕ → ℕ
word_in t n pattern h k = word_of t n (offsets_of pattern) (record { x = h.x; y = h.y; k = k })

-- The hit has the sample at an index.
unfoldable pub has_at : Region → ℕ → ℕ → Hit → Bool
has_at r size j h = (place_of r h.x h.y == j / size) && has_sample h (j % size)

-- The hit lies in the region, and has the mask of the triangle.
pub record IsHitOf (t : Triangle) (r : Region) (offsets : List (ℤ × ℤ)) (h : Hit) : Type 0 where
  pub within : IsHitIn r h
  pub mask : h.fragment.mask ≡ mask t offsets h.x h.y

-- A sample that was offered a word: it is the word of a primitive, and counts from `from` on unless nothing is left.
abbrev pub IsTold : ℕ → ℕ → Bool → Type 0
IsTold from word left = (word < 2 ^ 48) × (left ≡ false → reaches from word ≡ false)

-- Primitive number n was offered to the samples of these hits, in any order.
pub record OffersHits (t : Triangle) (n : ℕ) (r : Region) (pattern : Pattern) (from : List ℕ) (hits : List Hit) (old new : List (List ℕ)) (left : Bool) : Type 0 where
  pub size : length new ≡ length old
  pub each : (j : ℕ) → j < count_of r pattern
      → slice_index_or new j [] ≡ offered_times (count_by (has_at r (size_of pattern) j) hits) (slice_index_or from j 0) (word_at t n r pattern j) (slice_index_or old j [])
  pub told : (j : ℕ) → j < count_of r pattern → 0 < count_by (has_at r (size_of pattern) j) hits → IsTold (slice_index_or from j 0) (word_at t n r pattern j) left

-- The words are those of the next 16 of some primitives, for all samples;
pub record AreNextAmong (triangles : List Triangle) (r : Region) (pattern : Pattern) (from ns : List ℕ) (best : List (List ℕ)) : Type 0 where
  pub size : length best ≡ count_of r pattern
  pub each : (j : ℕ) → j < count_of r pattern → FindsLowest (length triangles) (left_at r pattern triangles from j ns) (slice_index_or best j [])

-- and of all primitives.
abbrev pub AreNext : List Triangle → Region → Pattern → List ℕ → List (List ℕ) → Type 0
AreNext triangles r pattern from best = AreNextAmong triangles r pattern from (numbers triangles) best

-- Where as much is left of some primitives as of these and number n, n may be dropped.
abbrev pub IsDone : List Triangle → Region → Pattern → List ℕ → ℕ → Type 0
IsDone triangles r pattern from n = (ns : List ℕ) (j : ℕ) → j < count_of r pattern → left_at r pattern triangles from j ns ≡ left_at r pattern triangles from j (ns ++ n ∷ [])

-- Primitive number n is offered to all samples: the words are those of the next ones among it too. It may be dropped unless something is left.
pub record OffersNext (triangles : List Triangle) (n : ℕ) (r : Region) (pattern : Pattern) (from : List ℕ) (old new : List (List ℕ)) (left : Bool) : Type 0 where
  pub next : (ns : List ℕ) → AreNextAmong triangles r pattern from ns old → AreNextAmong triangles r pattern from (ns ++ n ∷ []) new
  pub done : left ≡ false → IsDone triangles r pattern from n
