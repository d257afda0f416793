-- What every hit keeps to.
use Rattle.std.proofs.Common.{◌≡◌, ℕ, zero, suc, ◌+◌, ◌*◌, ◌/◌, ◌%◌, ◌^◌, ◌<◌, ◌≤◌, Bool, true, false, if◌then◌else◌, ◌==◌, List, length, ℤ, Option, Some, None, All, arith, refl, sym, subst}
use Rattle.std.specs.List.{filter_map, range_with_len, cons_option}
use Rattle.std.proofs.lemmas.List.Elements.{All-nil, All-cons}
use Rattle.std.proofs.lemmas.Nat.{mod_below, div_below}
use Rattle.abuf_raster.specs.declared.region.Hit.{Hit}
use Rattle.abuf_raster.specs.Triangle.{Triangle}
use Rattle.abuf_raster.specs.Coverage.{mask}
use Rattle.abuf_raster.specs.Hits.{hit_at, IsHitIn}
use Rattle.abuf_raster.specs.Region.{Region, IsRegion}
use Rattle.abuf_raster.proofs.Masks.{mask_small}

-- There are no more hits than places.
pub hits_few : (f : ℕ → Option Hit) (count p : ℕ) → length (filter_map f (range_with_len p count)) ≤ count
hits_few f zero p = omega arith
hits_few f (suc count) p = elim (f p) as (λ (o : Option Hit). length (cons_option o (filter_map f (range_with_len (p + 1) count))) ≤ suc count) [
  | None ↦ omega (arith, hits_few f count (p + 1))
  | Some h ↦ omega (arith, hits_few f count (p + 1))
]

module _ (t : Triangle) (n : ℕ) (os : List (ℤ × ℤ)) (r : Region) (n_small : n < 2 ^ 24) (few : length os ≤ 16) (is : IsRegion r) where
  -- the hit at a place of the region is in it
  pub hit_in : (p : ℕ) → p < r.w * r.h → (h : Hit) → hit_at t n os r p ≡ Some h → IsHitIn r h
  hit_in p below h e = go (mask t os (r.x0 + p % r.w) (r.y0 + p / r.w) == 0) e where
    x : ℕ
    x = r.x0 + p % r.w

    y : ℕ
    y = r.y0 + p / r.w

    all : IsHitIn r (record { x = r.x0 + p % r.w; y = r.y0 + p / r.w; fragment = record { prim = n; mask = mask t os (r.x0 + p % r.w) (r.y0 + p / r.w) } })
    all =
        let some : 0 < r.w = omega (arith, is.w_some) in
        record {
          x_low = omega arith;
          x_high = omega (arith, mod_below p r.w some);
          y_low = omega arith;
          y_high = omega (arith, div_below p r.w r.h some (omega arith));
          fits = (n_small, mask_small t os (r.x0 + p % r.w) (r.y0 + p / r.w) few);
        }

    go : (b : Bool) → (if b then None else Some (record { x = r.x0 + p % r.w; y = r.y0 + p / r.w; fragment = record { prim = n; mask = mask t os (r.x0 + p % r.w) (r.y0 + p / r.w) } })) ≡ Some h → IsHitIn r h
    go true e = cc
    go false e = let g : ◌≡◌ {A = Hit} (record { x = r.x0 + p % r.w; y = r.y0 + p / r.w; fragment = record { prim = n; mask = mask t os (r.x0 + p % r.w) (r.y0 + p / r.w) } }) h = cc in subst (IsHitIn r) g all

  -- So are all hits at places of the region.
  pub hits_each : (count p : ℕ) → p + count ≤ r.w * r.h → All (IsHitIn r) (filter_map (hit_at t n os r) (range_with_len p count))
  hits_each zero p h = All-nil (IsHitIn r)
  hits_each (suc count) p h = go (hits_each count (p + 1) (omega arith)) (hit_at t n os r p) refl where
    go : All (IsHitIn r) (filter_map (hit_at t n os r) (range_with_len (p + 1) count)) → (o : Option Hit) → o ≡ hit_at t n os r p → All (IsHitIn r) (cons_option (hit_at t n os r p) (filter_map (hit_at t n os r) (range_with_len (p + 1) count)))
    go k None e = rw (← e) k
    go k (Some g) e = rw (← e) (All-cons (IsHitIn r) g (filter_map (hit_at t n os r) (range_with_len (p + 1) count)) (hit_in p (omega arith) g (sym e)) k)
