-- The fold over a pixel's sorted words is the colour that the primitives give.
use Rattle.std.proofs.Common.{◌≡◌, ℕ, ◌+◌, ◌*◌, ◌/◌, ◌%◌, ◌^◌, ◌<◌, ◌≤◌, Bool, true, false, not, if◌then◌else◌, All, List, [], ◌∷◌, ◌++◌, map, length, ℤ, refl, ap, ap₂, ◌∙◌, sym, arith, ◌==◌, nat_lt}
use Rattle.std.specs.List.{filter, flat_map}
use Rattle.std.specs.List.Sorted.{IsNonDecreasing, IsPermutation}
use Rattle.std.specs.Int.{bit_at}
use Rattle.std.proofs.lemmas.Bool.{eqb-true}
use Rattle.std.proofs.lemmas.List.Elements.{All-filter, filter-append}
use Rattle.std.proofs.lemmas.List.Sorted.{All-permutation}
use Rattle.abuf_num.specs.declared.plain.Paint.{Paint}
use Rattle.abuf_frame.specs.Draws.{payloads_at}
use Rattle.abuf_raster.specs.Triangle.{Triangle}
use Rattle.abuf_raster.specs.Coverage.{covers, mask}
use Rattle.abuf_raster.specs.Depth.{depth_key}
use Rattle.abuf_raster.specs.Packing.{unpacked}
use Rattle.abuf_raster.specs.Hits.{all_fragments}
use Rattle.abuf_raster.specs.Region.{Region, IsRegion}
use Rattle.abuf_raster.proofs.Masks.{mask_small}
use Rattle.abuf_resolve.specs.Order.{in_order}
use Rattle.abuf_resolve.specs.Over.{layered}
use Rattle.abuf_resolve.specs.Colour.{colour, covering, layers, is_beneath, triangle_at, paint_at, layer_at, numbers}
use Rattle.abuf_resolve.specs.Words.{folded, has_sample, paint_of, prim_of, layer_of, sample_word, sample_words, sample_of, layer_word}
use Rattle.abuf_raster.proofs.Bits.{bit_covers, none_covered}
use Rattle.abuf_resolve.proofs.Hits.{chosen, word_of, word_if, words_are}
use Rattle.abuf_resolve.proofs.Orders.{Alike, Alike-permutation, Alike-filter, Alike-map, in_order_is, in_order_same, permuted}
use Rattle.abuf_resolve.proofs.Words.{map_below, map-in_order, range_below, words_ordered}

-- ---- the words of primitives in one sample
module _ (tris : List Triangle) (os : List (ℤ × ℤ)) (x y k : ℕ) where
  -- To lie beneath is to have the lower word.
  agree : (m n : ℕ) → m < 2 ^ 24 → n < 2 ^ 24 → is_beneath os tris x y k m n ≡ nat_lt (layer_word os tris x y k m) (layer_word os tris x y k n)
  agree m n h l = words_ordered (depth_key (triangle_at tris m) os x y k) (depth_key (triangle_at tris n) os x y k) m n h l

  -- A word tells its primitive.
  pub told : (n : ℕ) → n < 2 ^ 24 → prim_of (layer_word os tris x y k n) ≡ n
  told n h = omega arith

  -- What one such word tells.
  pub told_is : (n : ℕ) → n < 2 ^ 24 → layer_of (layer_word os tris x y k n) ≡ layer_at os tris x y k n
  told_is n h = let f : layer_word os tris x y k n / 2 ^ 24 ≡ depth_key (triangle_at tris n) os x y k = omega arith in ap₂ (λ (a b : ℕ). (a, b)) (told n h) f

  module _ (limit : length tris ≤ 2 ^ 24) where
    -- The numbers of the primitives that cover the sample are small enough,
    pub below : All (λ n. n < 2 ^ 24) (covering os tris x y k)
    below = All-filter (λ n. covers (triangle_at tris n) os x y k) (λ n. n < 2 ^ 24) (numbers tris) (range_below (2 ^ 24) (length tris) 0 (omega arith))

    -- and so are they in order.
    pub layers_below : All (λ n. n < 2 ^ 24) (layers os tris x y k)
    layers_below = All-permutation (λ n. n < 2 ^ 24) (covering os tris x y k) (layers os tris x y k) (permuted (is_beneath os tris x y k) (covering os tris x y k)) below

    -- In order they have their words in order,
    pub layer_words : map (layer_word os tris x y k) (layers os tris x y k) ≡ in_order nat_lt (map (layer_word os tris x y k) (covering os tris x y k))
    layer_words = map-in_order (is_beneath os tris x y k) (layer_word os tris x y k) (2 ^ 24) agree (covering os tris x y k) below

    -- whose paints are those of the primitives.
    pub paints_are : (paints : List Paint) → map (paint_of paints) (map (layer_word os tris x y k) (layers os tris x y k)) ≡ map (paint_at paints) (layers os tris x y k)
    paints_are paints = map_below (2 ^ 24) (paint_of paints) (layer_word os tris x y k) (paint_at paints) (λ n h. ap (paint_at paints) (told n h)) (layers os tris x y k) layers_below

-- ---- the words of fragments
module _ (os : List (ℤ × ℤ)) (few : length os ≤ 16) (x y : ℕ) (t : Triangle) (n : ℕ) where
  -- the parts of a word
  pub prim_is : n < 2 ^ 24 → (unpacked (word_of t os x y n)).prim ≡ n
  prim_is h = omega (arith, mask_small t os x y few)

  -- The mask of a primitive's word is its mask in the pixel.
  pub mask_is : (unpacked (word_of t os x y n)).mask ≡ mask t os x y
  mask_is = omega (arith, mask_small t os x y few)

  -- the word has a sample where the primitive covers it
  pub one_kept : (k : ℕ) → k < length os → filter (has_sample k) (word_if t os x y n) ≡ (if covers t os x y k then word_of t os x y n ∷ [] else [])
  one_kept k in_pattern = go (mask t os x y == 0) refl where
    go : (b : Bool) → b ≡ (mask t os x y == 0) → filter (has_sample k) (if not b then word_of t os x y n ∷ [] else []) ≡ (if covers t os x y k then word_of t os x y n ∷ [] else [])
    go true e = rw (none_covered t os x y k in_pattern (eqb-true (mask t os x y) 0 (sym e))) refl
    go false e = ap (λ (v : Bool). (if v then word_of t os x y n ∷ [] else [])) (ap (λ (m : ℕ). bit_at m k == 1) mask_is ∙ bit_covers t os x y k in_pattern)

module _ (tris : List Triangle) (os : List (ℤ × ℤ)) (few : length os ≤ 16) (x y : ℕ) where
  module _ (k : ℕ) (in_pattern : k < length os) where
    -- Of each primitive that covers the sample one word is kept.
    parts : (ns : List ℕ) → filter (has_sample k) (flat_map (λ n. word_if (triangle_at tris n) os x y n) ns) ≡ flat_map (λ n. if covers (triangle_at tris n) os x y k then word_of (triangle_at tris n) os x y n ∷ [] else []) ns
    parts [] = refl
    parts (n ∷ ns) =
        filter-append (has_sample k) (word_if (triangle_at tris n) os x y n) (flat_map (λ m. word_if (triangle_at tris m) os x y m) ns)
        ∙ ap₂ ◌++◌ (one_kept os few x y (triangle_at tris n) n k in_pattern) (parts ns)

    -- The words that have the sample are those of the primitives that cover it.
    kept_words : (ns : List ℕ) → filter (has_sample k) (flat_map (λ n. word_if (triangle_at tris n) os x y n) ns)
        ≡ map (λ n. word_of (triangle_at tris n) os x y n) (filter (λ n. covers (triangle_at tris n) os x y k) ns)
    kept_words ns = parts ns ∙ chosen (λ n. covers (triangle_at tris n) os x y k) (λ n. word_of (triangle_at tris n) os x y n) ns

    -- the words of all primitives' fragments, in that sample and in order
    all_samples : length tris ≤ 2 ^ 24 → in_order nat_lt (sample_words os tris x y k (flat_map (λ n. word_if (triangle_at tris n) os x y n) (numbers tris))) ≡ map (layer_word os tris x y k) (layers os tris x y k)
    all_samples limit =
        ap (λ (ws : List ℕ). in_order nat_lt (map (sample_word os tris x y k) ws)) (kept_words (numbers tris))
        ∙ (ap (in_order nat_lt) (map_below (2 ^ 24) (sample_word os tris x y k) (λ n. word_of (triangle_at tris n) os x y n) (layer_word os tris x y k)
        (λ n h. ap (layer_word os tris x y k) (prim_is os few x y (triangle_at tris n) n h)) (covering os tris x y k) (below tris os x y k limit))
        ∙ sym (layer_words tris os x y k limit))

-- for a list that holds the words of all hits at a place, in any order
pub layers_are : (os : List (ℤ × ℤ)) (tris : List Triangle) (r : Region) (p k : ℕ) (list : List ℕ)
    → length os ≤ 16 → k < length os → length tris ≤ 2 ^ 24 → IsRegion r → p < r.w * r.h
    → Alike (payloads_at p (all_fragments tris 0 os r)) list
    → in_order nat_lt (sample_words os tris (r.x0 + p % r.w) (r.y0 + p / r.w) k list) ≡ map (layer_word os tris (r.x0 + p % r.w) (r.y0 + p / r.w) k) (layers os tris (r.x0 + p % r.w) (r.y0 + p / r.w) k)
layers_are os tris r p k list few in_pattern limit is inside alike =
    let x : ℕ = r.x0 + p % r.w in
    let y : ℕ = r.y0 + p / r.w in
    let all : List ℕ = payloads_at p (all_fragments tris 0 os r) in
    sym (in_order_same (sample_words os tris x y k all) (sample_words os tris x y k list)
    (Alike-map (sample_word os tris x y k) (filter (has_sample k) all) (filter (has_sample k) list) (Alike-filter (has_sample k) all list alike)))
    ∙ (ap (λ (ws : List ℕ). in_order nat_lt (sample_words os tris x y k ws)) (words_are os tris r is p inside)
    ∙ all_samples tris os few x y k in_pattern limit)

-- Such a list gives the colour of the sample.
pub list_in_order : (os : List (ℤ × ℤ)) (background : List ℕ) (tris : List Triangle) (paints : List Paint) (r : Region) (p k : ℕ) (list : List ℕ)
    → length os ≤ 16 → k < length os → length tris ≤ 2 ^ 24 → IsRegion r → p < r.w * r.h
    → Alike (payloads_at p (all_fragments tris 0 os r)) list
    → sample_of os background tris paints (r.x0 + p % r.w) (r.y0 + p / r.w) list k ≡ colour os background tris paints (r.x0 + p % r.w) (r.y0 + p / r.w) k
list_in_order os background tris paints r p k list few in_pattern limit is inside alike =
    let x : ℕ = r.x0 + p % r.w in
    let y : ℕ = r.y0 + p / r.w in
    ap (folded background paints) (layers_are os tris r p k list few in_pattern limit is inside alike)
    ∙ ap (layered background) (paints_are tris os x y k limit paints)

-- and for the sorted list
pub sorted_is : (xs ys : List ℕ) → IsPermutation xs ys → IsNonDecreasing ys → ys ≡ in_order nat_lt xs
sorted_is xs ys perm ascending = in_order_is xs ys (Alike-permutation xs ys perm) ascending
