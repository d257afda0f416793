-- Hits, and the samples that they have.
use Rattle.std.proofs.Common.{◌≡◌, ℕ, ◌+◌, ◌-◌, ◌*◌, ◌/◌, ◌%◌, ◌^◌, ◌<◌, Bool, true, false, ◌&&◌, if◌then◌else◌, List, [], ◌∷◌, map, length, get_or, ℤ, IsPermutation, All, refl, ap, ap₂, ◌∙◌, sym, arith, ◌==◌}
use Rattle.std.specs.List.{filter, count_by, range_with_len}
use Rattle.std.specs.Int.{bit_at}
use Rattle.std.proofs.lemmas.Bool.{eq-eqb, ne_eqb}
use Rattle.std.proofs.lemmas.Nat.{div-mul-add, mod-mul-add, div_below, mod_below}
use Rattle.std.proofs.lemmas.List.Elements.{All-tail}
use Rattle.std.proofs.lemmas.List.Sorted.{All-permutation, IsPermutation-sym, sum_by-IsPermutation}
use Rattle.abuf_num.proofs.Counting.{count_by-cons}
use Rattle.abuf_raster.specs.declared.region.Hit.{Hit}
use Rattle.abuf_raster.specs.declared.pattern.Pattern.{Pattern}
use Rattle.abuf_raster.specs.Triangle.{Triangle}
use Rattle.abuf_raster.specs.Coverage.{covers, mask}
use Rattle.abuf_raster.specs.Hits.{hits, placed, IsHitIn}
use Rattle.abuf_raster.specs.Packing.{packed, unpacked}
use Rattle.abuf_raster.specs.Region.{Region, IsRegion, place_of}
use Rattle.abuf_raster.specs.Samples.{offsets_of}
use Rattle.abuf_raster.proofs.Masks.{mask_small, offsets_few}
use Rattle.abuf_resolve.specs.Words as words
use Rattle.abuf_resolve.proofs.Hits.{hits_all, hits_of_one}
use Rattle.abuf_resolve.proofs.Lists.{one_kept}
use Rattle.abuf_peel.specs.Layers.{count_of, size_of, sample_at}
use Rattle.abuf_peel.specs.Offers.{IsHitOf, has_at, has_sample, is_covered}
use Rattle.abuf_peel.proofs.Standing.{sample_is}

-- Sample k of its pixel, by the index.
pub hit_sample : (r : Region) (size k : ℕ) (h : Hit) → IsHitIn r h → k < size → sample_at r size (place_of r h.x h.y * size + k) ≡ record { x = h.x; y = h.y; k = k }
hit_sample r size k h is l =
    let column : h.x - r.x0 < r.w = omega (arith, is.x_low, is.x_high) in
    let x : r.x0 + place_of r h.x h.y % r.w ≡ h.x = ap (λ (m : ℕ). r.x0 + m) (mod-mul-add (h.y - r.y0) r.w (h.x - r.x0) column) ∙ omega (arith, is.x_low) in
    let y : r.y0 + place_of r h.x h.y / r.w ≡ h.y = ap (λ (m : ℕ). r.y0 + m) (div-mul-add (h.y - r.y0) r.w (h.x - r.x0) column) ∙ omega (arith, is.y_low) in
    sample_is r size (place_of r h.x h.y) k l ∙ λ i. record { x = x i; y = y i; k = k }

-- The hit has the sample of that index where it has sample k.
pub hit_has : (r : Region) (size k : ℕ) (h : Hit) → k < size → has_at r size (place_of r h.x h.y * size + k) h ≡ has_sample h k
unfolding has_at
hit_has r size k h l =
    ap₂ (λ (p q : ℕ). (place_of r h.x h.y == p) && has_sample h q) (div-mul-add (place_of r h.x h.y) size k l) (mod-mul-add (place_of r h.x h.y) size k l)
    ∙ ap (λ (b : Bool). b && has_sample h k) (eq-eqb (place_of r h.x h.y) (place_of r h.x h.y) refl)

-- It has no sample of another pixel.
pub hit_elsewhere : (r : Region) (size j : ℕ) (h : Hit) → (place_of r h.x h.y ≡ j / size → ⊥) → has_at r size j h ≡ false
unfolding has_at
hit_elsewhere r size j h f = ap (λ (b : Bool). b && has_sample h (j % size)) (ne_eqb (place_of r h.x h.y) (j / size) f)

-- ---- the hits of a triangle
module _ (t : Triangle) (n : ℕ) (os : List (ℤ × ℤ)) (r : Region) where
  -- Their masks are those of the triangle.
  masks_are : All (λ h. h.fragment.mask ≡ mask t os h.x h.y) (hits t n os r)
  masks_are = hits_all t n os r (λ h. h.fragment.mask ≡ mask t os h.x h.y) (λ q. refl) (range_with_len 0 (r.w * r.h))

  -- So are those of the hits in another order.
  pub hits_of : (all : List Hit) → IsPermutation all (hits t n os r) → All (IsHitIn r) all → All (IsHitOf t r os) all
  hits_of all p within i d l = record {
    within = within i d l;
    mask = All-permutation (λ h. h.fragment.mask ≡ mask t os h.x h.y) (hits t n os r) all (IsPermutation-sym _ _ p) masks_are i d l;
  }

-- The words of hits at a place.
abbrev words_at : Region → ℕ → List Hit → List ℕ
words_at r p hs = map (λ (e : ℕ × ℕ). e.1) (filter (λ (e : ℕ × ℕ). e.0 == p) (map (placed r) hs))

-- As many hits have the sample at an index as of the words at its place.
count_words : (r : Region) (size j : ℕ) (hs : List Hit) → All (λ h. h.fragment.mask < 2 ^ 16) hs
    → count_by (has_at r size j) hs ≡ length (filter (words.has_sample (j % size)) (words_at r (j / size) hs))
unfolding has_at
count_words r size j [] all = refl
count_words r size j (h ∷ hs) all =
    let k : ℕ = j % size in
    let small = all 0 h (omega arith) in
    let is : (unpacked (packed h.fragment)).mask ≡ h.fragment.mask = omega arith in
    let rest = count_words r size j hs (All-tail (λ g. g.fragment.mask < 2 ^ 16) h hs all) in
    let here : List (ℕ × ℕ) = filter (λ (e : ℕ × ℕ). e.0 == (j / size)) (map (placed r) hs) in
    let has : List ℕ = filter (words.has_sample (j % size)) (words_at r (j / size) hs) in
    count_by-cons (has_at r size j) h hs
    ∙ elim (place_of r h.x h.y == (j / size)) as (λ (v : Bool). (if v && has_sample h k then 1 else 0) + count_by (has_at r size j) hs ≡ length (filter (words.has_sample k) (map (λ (e : ℕ × ℕ). e.1) (if v then placed r h ∷ here else here)))) [
      | true ↦ ap (λ (m : ℕ). (if bit_at m k == 1 then 1 else 0) + count_by (has_at r size j) hs) (sym is)
          ∙ elim (words.has_sample k (packed h.fragment)) as (λ (v : Bool). (if v then 1 else 0) + count_by (has_at r size j) hs ≡ length (if v then packed h.fragment ∷ has else has)) [ true ↦ omega (arith, rest) | false ↦ omega (arith, rest) ]
      | false ↦ omega (arith, rest)
    ]

-- Of all hits of a triangle, in any order, one has a sample that the triangle covers, and else none.
pub once_covered : (t : Triangle) (n : ℕ) (r : Region) (pattern : Pattern) (all : List Hit) (j : ℕ) → IsRegion r → 0 < size_of pattern → j < count_of r pattern → IsPermutation all (hits t n (offsets_of pattern) r)
    → count_by (has_at r (size_of pattern) j) all ≡ (if is_covered t (offsets_of pattern) (sample_at r (size_of pattern) j) then 1 else 0)
unfolding is_covered
once_covered t n r pattern all j is some h p =
    let os : List (ℤ × ℤ) = offsets_of pattern in
    let few = offsets_few pattern in
    let q : ℕ = j / size_of pattern in
    let k : ℕ = j % size_of pattern in
    let x : ℕ = r.x0 + q % r.w in
    let y : ℕ = r.y0 + q / r.w in
    sym (sum_by-IsPermutation (λ x. (if has_at r (size_of pattern) j x then 1 else 0)) all (hits t n os r) p)
    ∙ (count_words r (size_of pattern) j (hits t n os r) (λ i d l. omega (arith, masks_are t n os r i d l, mask_small t os (get_or (hits t n os r) i d).x (get_or (hits t n os r) i d).y few))
    ∙ (ap (λ (ws : List ℕ). length (filter (words.has_sample k) ws)) (hits_of_one t n os r is q (div_below j (size_of pattern) (r.w * r.h) some h))
    ∙ (ap (λ (ws : List ℕ). length ws) (one_kept os few x y t n k (mod_below j (size_of pattern) some))
    ∙ elim (covers t os x y k) as (λ (v : Bool). length (if v then packed (record { prim = n; mask = mask t os x y }) ∷ [] else []) ≡ (if v then 1 else 0)) [ true ↦ refl | false ↦ refl ])))
