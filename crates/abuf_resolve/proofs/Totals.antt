-- The sums of lists of the hits' words are the sums of the primitives' colours.
use Rattle.std.proofs.Common.{◌≡◌, ℕ, zero, suc, ◌+◌, ◌*◌, ◌/◌, ◌%◌, ◌^◌, ◌<◌, ◌≤◌, List, [], map, length, ℤ, refl, ap, ap₂, ◌∙◌, sym, arith, get_or, ◌∷◌, Bool, ◌==◌}
use Rattle.std.specs.List.{filter, range_with_len}
use Rattle.std.specs.List.Sorted.{IsPermutation}
use Rattle.abuf_num.specs.declared.plain.Paint.{Paint}
use Rattle.abuf_frame.specs.Draws.{payloads_at}
use Rattle.abuf_raster.specs.Region.{Region, IsRegion}
use Rattle.abuf_raster.specs.Triangle.{Triangle}
use Rattle.abuf_resolve.specs.Colour.{colour}
use Rattle.abuf_resolve.specs.Sums.{plus, summed, sums_at, region_sums}
use Rattle.abuf_resolve.specs.Words.{sample_of, place_sum, frame_sums, AreListsOf}
use Rattle.abuf_raster.specs.Hits.{all_fragments}
use Rattle.abuf_resolve.proofs.Lists.{list_in_order}
use Rattle.abuf_resolve.proofs.Orders.{Alike, Alike-filter, Alike-map, Alike-permutation}

-- Entries in another order give the same words at a place.
pub Alike-drawn : (hits entries : List (ℕ × ℕ)) (list : List ℕ) (p : ℕ) → IsPermutation entries hits → IsPermutation list (payloads_at p entries) → Alike (payloads_at p hits) list
Alike-drawn hits entries list p drawn here =
    let at : ℕ × ℕ → Bool = λ e. e.0 == p in
    let same = Alike-map (λ (e : ℕ × ℕ). e.1) (filter at entries) (filter at hits) (Alike-filter at entries hits (Alike-permutation entries hits drawn)) in
    record { times = λ q. sym ((Alike-permutation list (payloads_at p entries) here).times q ∙ same.times q) }

-- sums of equal colours are equal
pub summed_same : (f g : ℕ → List ℕ) (n : ℕ) → ((k : ℕ) → k < n → f k ≡ g k) → summed f n ≡ summed g n
summed_same f g zero h = refl
summed_same f g (suc n) h = ap₂ plus (summed_same f g n (λ k l. h k (omega arith))) (h n (omega arith))

-- Two functions that agree on two ranges have the same list over them,
pub same_on_ranges : {X : Type 0} (f g : ℕ → X) (a b n : ℕ) → ((p : ℕ) → p < n → f (a + p) ≡ g (b + p)) → map f (range_with_len a n) ≡ map g (range_with_len b n)
same_on_ranges f g a b zero h = refl
same_on_ranges f g a b (suc n) h =
    ap₂ ◌∷◌ (ap f (omega arith) ∙ (h 0 (omega arith) ∙ ap g (omega arith)))
    (same_on_ranges f g (a + 1) (b + 1) n (λ p l. ap f (omega arith) ∙ (h (p + 1) (omega arith) ∙ ap g (omega arith))))

-- and so have two that agree on one.
pub same_on_range : {X : Type 0} (f g : ℕ → X) (a n : ℕ) → ((p : ℕ) → a ≤ p → p < a + n → f p ≡ g p) → map f (range_with_len a n) ≡ map g (range_with_len a n)
same_on_range f g a n h = same_on_ranges f g a a n (λ p l. h (a + p) (omega arith) (omega arith))

-- The sums of lists that hold all hits are those of the pixels of the region.
pub sums_are : (os : List (ℤ × ℤ)) (background : List ℕ) (tris : List Triangle) (paints : List Paint) (r : Region) (lists : List (List ℕ))
    → length os ≤ 16 → length tris ≤ 2 ^ 24 → IsRegion r → length lists ≡ r.w * r.h
    → AreListsOf (all_fragments tris 0 os r) lists
    → frame_sums os background tris paints r lists ≡ region_sums os background tris paints r
sums_are os background tris paints r lists few limit is size words =
    same_on_range (place_sum os background tris paints r lists) (λ p. sums_at os background tris paints (r.x0 + p % r.w) (r.y0 + p / r.w)) 0 (r.w * r.h)
    (λ p z l.
    summed_same (sample_of os background tris paints (r.x0 + p % r.w) (r.y0 + p / r.w) (get_or lists p [])) (colour os background tris paints (r.x0 + p % r.w) (r.y0 + p / r.w)) (length os)
    (λ k m. list_in_order os background tris paints r p k (get_or lists p []) few m limit is (omega arith) (Alike-drawn (all_fragments tris 0 os r) words.entries (get_or lists p []) p words.drawn (words.each p (omega arith)))))
