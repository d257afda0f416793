-- Paints laid over one another in the order of a pixel's words.
use Rattle.std.proofs.Common.{◌≡◌, ℕ, ◌/◌, ◌^◌, ◌<◌, ◌≤◌, Bool, true, false, if◌then◌else◌, All, List, [], ◌∷◌, map, length, ℤ, refl, ap, ap₂, ◌∙◌, sym, subst, arith, nat_lt}
use Rattle.std.specs.List.{filter, fold}
use Rattle.std.specs.List.Sorted.{IsNonDecreasing}
use Rattle.std.proofs.lemmas.List.{length-map}
use Rattle.std.proofs.lemmas.List.Sorted.{IsNonDecreasingBy-short, IsPermutation-refl}
use Rattle.std.proofs.lemmas.List.Elements.{All-cons, All-head, All-nil, All-tail, All-filter}
use Rattle.abuf_num.specs.declared.limits.TheConstants.{MAX_PRIMITIVES}
use Rattle.abuf_num.specs.declared.plain.Paint.{Paint}
use Rattle.abuf_raster.specs.Triangle.{Triangle}
use Rattle.abuf_raster.specs.Packing.{unpacked}
use Rattle.abuf_resolve.specs.Colour.{paint_at}
use Rattle.abuf_resolve.specs.Order.{in_order}
use Rattle.abuf_resolve.specs.Over.{composite_over}
use Rattle.abuf_resolve.specs.Words.{has_sample, pixel_sum, sample_of, sample_word, sample_words, with_fragment, folded, prim_of, IsFragmentAt}
use Rattle.abuf_resolve.specs.Sums.{summed}
use Rattle.abuf_resolve.proofs.Lists.{sorted_is}
use Rattle.abuf_resolve.proofs.Orders.{Alike-filter, Alike-map, in_order_same}
use Rattle.abuf_resolve.proofs.Totals.{summed_same}

-- Samples that each fragment has or hasn't alike have one colour.
pub shared_fold : (paints : List Paint) (j k : ℕ) (u words : List ℕ) → All (λ word. has_sample j word ≡ has_sample k word) words → fold (with_fragment paints j) u words ≡ fold (with_fragment paints k) u words
shared_fold paints j k u [] all = refl
shared_fold paints j k u (w ∷ words) all =
    let e : has_sample j w ≡ has_sample k w = All-head (λ word. has_sample j word ≡ has_sample k word) w words all in
    let here : with_fragment paints j u w ≡ with_fragment paints k u w = ap (λ (b : Bool). if b then composite_over u (paint_at paints (unpacked w).prim) else u) e in
    ap (λ (v : List ℕ). fold (with_fragment paints j) v words) here
    ∙ shared_fold paints j k (with_fragment paints k u w) words (All-tail (λ word. has_sample j word ≡ has_sample k word) w words all)

-- A list that ascends is the list put in order.
pub ordered_is : (xs : List ℕ) → IsNonDecreasing xs → in_order nat_lt xs ≡ xs
ordered_is xs h = sym (sorted_is xs xs (IsPermutation-refl xs) h)

module _ (os : List (ℤ × ℤ)) (tris : List Triangle) (few : length tris ≤ MAX_PRIMITIVES) (x y k : ℕ) (paints : List Paint) where
  -- What is laid over by a pixel's words is laid over by their words in the sample.
  laid_is : (u words : List ℕ) → All (IsFragmentAt os tris x y) words → fold (with_fragment paints k) u words ≡ folded u paints (sample_words os tris x y k words)
  laid_is u [] all = refl
  laid_is u (w ∷ words) all = go (All-head (IsFragmentAt os tris x y) w words all) (λ v. laid_is v words (All-tail (IsFragmentAt os tris x y) w words all)) (has_sample k w) where
    go : IsFragmentAt os tris x y w → ((v : List ℕ) → fold (with_fragment paints k) v words ≡ folded v paints (sample_words os tris x y k words))
        → (b : Bool) → fold (with_fragment paints k) (if b then composite_over u (paint_at paints (unpacked w).prim) else u) words
        ≡ folded u paints (map (sample_word os tris x y k) (if b then w ∷ filter (has_sample k) words else filter (has_sample k) words))
    go is rest false = rest u
    go is rest true =
        let known = is.known in
        let e : prim_of (sample_word os tris x y k w) ≡ (unpacked w).prim = omega arith in
        rest (composite_over u (paint_at paints (unpacked w).prim)) ∙ ap (λ (n : ℕ). folded (composite_over u (paint_at paints n)) paints (sample_words os tris x y k words)) (sym e)

  -- Where the words stand in the order of the sample, that is its colour.
  pub laid_in_order : (u words : List ℕ) → All (IsFragmentAt os tris x y) words → IsNonDecreasing (sample_words os tris x y k words)
      → fold (with_fragment paints k) u words ≡ sample_of os u tris paints x y words k
  laid_in_order u words all ascend = laid_is u words all ∙ sym (ap (folded u paints) (ordered_is (sample_words os tris x y k words) ascend))

  -- The colour of a sample that one word alone has.
  pub alone : (u list : List ℕ) (w : ℕ) → filter (has_sample k) list ≡ w ∷ [] → IsFragmentAt os tris x y w → composite_over u (paint_at paints (w / 2 ^ 16)) ≡ sample_of os u tris paints x y list k
  alone u list w e is =
      let known = is.known in
      let p : prim_of (sample_word os tris x y k w) ≡ w / 2 ^ 16 = omega arith in
      rw e (ap (λ (n : ℕ). composite_over u (paint_at paints n)) (sym p))

-- A word that alone has a sample is one of the list.
pub alone_fits : (P : ℕ → Type 0) (k : ℕ) (list : List ℕ) (w : ℕ) → filter (has_sample k) list ≡ w ∷ [] → All P list → P w
alone_fits P k list w e all = All-head P w [] (subst (All P) e (All-filter (has_sample k) P list all))

-- Where a sample has at most one fragment, its words stand in order.
pub apart_ascend : (os : List (ℤ × ℤ)) (tris : List Triangle) (x y k : ℕ) (words : List ℕ) → length (filter (has_sample k) words) ≤ 1 → IsNonDecreasing (sample_words os tris x y k words)
apart_ascend os tris x y k words l =
    IsNonDecreasingBy-short (λ x. x) (sample_words os tris x y k words) (omega (arith, l, length-map (filter (has_sample k) words) (sample_word os tris x y k)))

-- The sums of words that stand in the order of each sample.
pub sums_in_order : (os : List (ℤ × ℤ)) (tris : List Triangle) → length tris ≤ MAX_PRIMITIVES → (x y : ℕ) (paints : List Paint) (u words : List ℕ) → All (IsFragmentAt os tris x y) words
    → ((k : ℕ) → k < length os → IsNonDecreasing (sample_words os tris x y k words))
    → summed (λ k. fold (with_fragment paints k) u words) (length os) ≡ pixel_sum os u tris paints x y words
sums_in_order os tris few x y paints u words all ascend =
    summed_same (λ k. fold (with_fragment paints k) u words) (sample_of os u tris paints x y words) (length os)
    (λ k l. laid_in_order os tris few x y k paints u words all (ascend k l))

-- The same of two words.
pub pair_in_order : (os : List (ℤ × ℤ)) (tris : List Triangle) → length tris ≤ MAX_PRIMITIVES → (x y : ℕ) (paints : List Paint) (u : List ℕ) (v w : ℕ) → IsFragmentAt os tris x y v → IsFragmentAt os tris x y w
    → ((k : ℕ) → k < length os → IsNonDecreasing (sample_words os tris x y k (v ∷ w ∷ [])))
    → summed (λ k. fold (with_fragment paints k) u (v ∷ w ∷ [])) (length os) ≡ pixel_sum os u tris paints x y (v ∷ w ∷ [])
pair_in_order os tris few x y paints u v w is_v is_w ascend =
    let P : ℕ → Type 0 = IsFragmentAt os tris x y in
    sums_in_order os tris few x y paints u (v ∷ w ∷ []) (All-cons P v (w ∷ []) is_v (All-cons P w [] is_w (All-nil P))) ascend

-- Two words give the same sums, whichever is the first.
pub sums_turned : (os : List (ℤ × ℤ)) (tris : List Triangle) (x y : ℕ) (paints : List Paint) (u : List ℕ) (v w : ℕ) → pixel_sum os u tris paints x y (v ∷ w ∷ []) ≡ pixel_sum os u tris paints x y (w ∷ v ∷ [])
sums_turned os tris x y paints u v w =
    summed_same (sample_of os u tris paints x y (v ∷ w ∷ [])) (sample_of os u tris paints x y (w ∷ v ∷ [])) (length os)
    (λ k l. ap (folded u paints) (in_order_same (sample_words os tris x y k (v ∷ w ∷ [])) (sample_words os tris x y k (w ∷ v ∷ []))
    (Alike-map (sample_word os tris x y k) (filter (has_sample k) (v ∷ w ∷ [])) (filter (has_sample k) (w ∷ v ∷ []))
    (Alike-filter (has_sample k) (v ∷ w ∷ []) (w ∷ v ∷ []) (record { times = λ p. omega arith })))))

-- What one fragment is laid over, where the sample may have it.
pub one_colour : (paints : List Paint) (k : ℕ) (u : List ℕ) (w : ℕ) (a : Bool) → has_sample k w ≡ a
    → fold (with_fragment paints k) u (w ∷ []) ≡ (if a then composite_over u (paint_at paints (unpacked w).prim) else u)
one_colour paints k u w a e = ap (λ (b : Bool). if b then composite_over u (paint_at paints (unpacked w).prim) else u) e

-- The same of two.
pub two_colours : (paints : List Paint) (k : ℕ) (u : List ℕ) (v w : ℕ) (a b : Bool) → has_sample k v ≡ a → has_sample k w ≡ b
    → fold (with_fragment paints k) u (v ∷ w ∷ [])
    ≡ (if b then composite_over (if a then composite_over u (paint_at paints (unpacked v).prim) else u) (paint_at paints (unpacked w).prim) else (if a then composite_over u (paint_at paints (unpacked v).prim) else u))
two_colours paints k u v w a b e f =
    ap₂ (λ (c d : Bool).
    if d then composite_over (if c then composite_over u (paint_at paints (unpacked v).prim) else u) (paint_at paints (unpacked w).prim) else (if c then composite_over u (paint_at paints (unpacked v).prim) else u)) e f
