-- The words at a place, in order, are those of the primitives that are present in the pixel.
use Rattle.std.proofs.Common.{◌≡◌, ℕ, ◌+◌, ◌*◌, ◌/◌, ◌%◌, ◌^◌, ◌<◌, ◌≤◌, Bool, not, All, List, [], map, length, get_or, ℤ, ap, ◌∙◌, sym, arith, ◌==◌, nat_lt}
use Rattle.std.specs.List.{range_with_len}
use Rattle.std.specs.List.Sorted.{IsNonDecreasing}
use Rattle.std.proofs.lemmas.Bool.Decides.{nat_tests}
use Rattle.std.proofs.lemmas.List.{get_or-map, length-map}
use Rattle.std.proofs.lemmas.List.Sums.{count_by-le-length, length-filter}
use Rattle.std.proofs.lemmas.List.Elements.{All-filter}
use Rattle.std.proofs.lemmas.List.Kept.{IsNonDecreasingBy-filter}
use Rattle.std.proofs.lemmas.List.Sorted.{IsPermutation-refl, length_permutation}
use Rattle.std.proofs.lemmas.List.FromFn.{fill_by_all, get_or-range_with_len, length-range_with_len}
use Rattle.abuf_frame.specs.Draws.{payloads_at}
use Rattle.abuf_raster.specs.Triangle.{Triangle}
use Rattle.abuf_raster.specs.Coverage.{mask}
use Rattle.abuf_raster.specs.Packing.{unpacked}
use Rattle.abuf_raster.specs.Hits.{all_fragments}
use Rattle.abuf_raster.specs.Region.{Region, IsRegion}
use Rattle.abuf_raster.proofs.Masks.{mask_small}
use Rattle.abuf_resolve.specs.Order.{in_order}
use Rattle.abuf_resolve.specs.Colour.{triangle_at, numbers}
use Rattle.abuf_resolve.specs.Pixel.{present, fragment_of, pixel_fragments}
use Rattle.abuf_resolve.specs.Words.{AreListsOf, AreWordsAt}
use Rattle.abuf_resolve.proofs.Hits.{chosen, word_of, words_are}
use Rattle.abuf_resolve.proofs.Lists.{prim_is, mask_is, sorted_is}
use Rattle.abuf_resolve.proofs.Orders.{Alike, in_order_same, permuted}
use Rattle.abuf_resolve.proofs.Totals.{Alike-drawn}
use Rattle.abuf_resolve.proofs.Words.{map_below, map-in_order, range_below}

-- Lists that hold the same numbers have one length.
length-alike : (xs ys : List ℕ) → Alike xs ys → length ys ≡ length xs
length-alike xs ys a =
    sym (length_permutation ys (in_order nat_lt ys) (permuted nat_lt ys))
    ∙ (ap (λ (zs : List ℕ). length zs) (sym (in_order_same xs ys a)) ∙ length_permutation xs (in_order nat_lt xs) (permuted nat_lt xs))

-- ---- words
module _ (tris : List Triangle) (os : List (ℤ × ℤ)) (few : length os ≤ 16) (x y : ℕ) where
  -- the fragment of a primitive's word
  fragment_is : (n : ℕ) → n < 2 ^ 24 → unpacked (word_of (triangle_at tris n) os x y n) ≡ fragment_of os tris x y n
  fragment_is n h = λ i. record { prim = prim_is os few x y (triangle_at tris n) n h i; mask = mask_is os few x y (triangle_at tris n) n i }

  -- Their words are in the order of the numbers.
  in_turn : (m n : ℕ) → nat_lt m n ≡ nat_lt (word_of (triangle_at tris m) os x y m) (word_of (triangle_at tris n) os x y n)
  in_turn m n = grind (arith, nat_tests, mask_small (triangle_at tris m) os x y few, mask_small (triangle_at tris n) os x y few)

-- A range ascends.
ascends-range : (a n : ℕ) → IsNonDecreasing (range_with_len a n)
ascends-range a n i j d l m =
    let k : j < n = omega (arith, m, length-range_with_len a n) in
    omega (arith, l, get_or-range_with_len a n i d (omega arith), get_or-range_with_len a n j d k)

-- ---- the pixel at a place of a region
module _ (os : List (ℤ × ℤ)) (tris : List Triangle) (r : Region) (p : ℕ) (words : List ℕ) (few : length os ≤ 16) (limit : length tris ≤ 2 ^ 24) (is : IsRegion r) (inside : p < r.w * r.h) where
  -- The words of all hits at the place are those of the primitives that are present.
  same_words : payloads_at p (all_fragments tris 0 os r) ≡ map (λ n. word_of (triangle_at tris n) os (r.x0 + p % r.w) (r.y0 + p / r.w) n) (present os tris (r.x0 + p % r.w) (r.y0 + p / r.w))
  same_words = words_are os tris r is p inside ∙ chosen (λ n. not (mask (triangle_at tris n) os (r.x0 + p % r.w) (r.y0 + p / r.w) == 0)) (λ n. word_of (triangle_at tris n) os (r.x0 + p % r.w) (r.y0 + p / r.w) n) (numbers tris)

  -- In ascending order the words there unpack to the fragments of the pixel.
  pub pixel_is : AreWordsAt (all_fragments tris 0 os r) p words → map unpacked (in_order nat_lt words) ≡ pixel_fragments os tris (r.x0 + p % r.w) (r.y0 + p / r.w)
  pixel_is are =
      let x : ℕ = r.x0 + p % r.w in
      let y : ℕ = r.y0 + p / r.w in
      let w : ℕ → ℕ = λ n. word_of (triangle_at tris n) os x y n in
      let ns : List ℕ = present os tris x y in
      let below : All (λ n. n < 2 ^ 24) ns = All-filter (λ n. not (mask (triangle_at tris n) os x y == 0)) (λ n. n < 2 ^ 24) (numbers tris) (range_below (2 ^ 24) (length tris) 0 (omega arith)) in
      let all : List ℕ = payloads_at p (all_fragments tris 0 os r) in
      let ascend : IsNonDecreasing ns = IsNonDecreasingBy-filter (λ n. n) (λ n. not (mask (triangle_at tris n) os x y == 0)) (numbers tris) (ascends-range 0 (length tris)) in
      let ordered : in_order nat_lt words ≡ map w ns =
      sym (in_order_same all words (Alike-drawn (all_fragments tris 0 os r) are.entries words p are.drawn are.here))
      ∙ (ap (in_order nat_lt) same_words
      ∙ (sym (map-in_order nat_lt w (2 ^ 24) (λ m n h l. in_turn tris os few x y m n) ns below)
      ∙ sym (ap (map w) (sorted_is ns ns (IsPermutation-refl ns) ascend)))) in
      ap (map unpacked) ordered ∙ map_below (2 ^ 24) unpacked w (fragment_of os tris x y) (fragment_is tris os few x y) ns below

  -- as many words as primitives that are present
  pub count_is : Alike (payloads_at p (all_fragments tris 0 os r)) words → length words ≡ length (present os tris (r.x0 + p % r.w) (r.y0 + p / r.w))
  count_is alike =
      length-alike (payloads_at p (all_fragments tris 0 os r)) words alike
      ∙ (ap (λ (ws : List ℕ). length ws) same_words
      ∙ length-map (present os tris (r.x0 + p % r.w) (r.y0 + p / r.w)) (λ n. word_of (triangle_at tris n) os (r.x0 + p % r.w) (r.y0 + p / r.w) n))

-- No more primitives are present than there are.
pub present_few : (os : List (ℤ × ℤ)) (tris : List Triangle) (x y : ℕ) → length (present os tris x y) ≤ length tris
present_few os tris x y =
    let is : ℕ → Bool = λ n. not (mask (triangle_at tris n) os x y == 0) in
    omega (arith, length-filter is (numbers tris), count_by-le-length is (numbers tris), length-range_with_len 0 (length tris))

-- ---- all pixels of a region
pub lengths_are : (os : List (ℤ × ℤ)) (tris : List Triangle) (r : Region) (lists : List (List ℕ))
    → length os ≤ 16 → length tris ≤ 2 ^ 24 → IsRegion r → length lists ≡ r.w * r.h
    → AreListsOf (all_fragments tris 0 os r) lists
    → map length lists ≡ map (λ p. length (present os tris (r.x0 + p % r.w) (r.y0 + p / r.w))) (range_with_len 0 (r.w * r.h))
lengths_are os tris r lists few limit is size are =
    fill_by_all (λ p. length (present os tris (r.x0 + p % r.w) (r.y0 + p / r.w))) (map length lists) (r.w * r.h) 0
    (length-map lists length ∙ size)
    (λ p l. get_or-map length lists p [] 0 (omega arith)
    ∙ count_is os tris r p (get_or lists p []) few limit is l (Alike-drawn (all_fragments tris 0 os r) are.entries (get_or lists p []) p are.drawn (are.each p (omega arith))))
