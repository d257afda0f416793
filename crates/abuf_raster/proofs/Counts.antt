-- Numbers of hits and of pixels.
use Rattle.std.proofs.Common.{◌≡◌, ℕ, zero, suc, ◌+◌, ◌-◌, ◌*◌, ◌/◌, ◌%◌, ◌<◌, ◌≤◌, min, Bool, true, false, ◌==◌, List, [], ℤ, length, length-append, Option, Some, None, arith, refl, ap}
use Rattle.std.proofs.lemmas.Nat.{mul-le}
use Rattle.std.specs.List.{filter_map, range_with_len, cons_option}
use Rattle.abuf_raster.specs.declared.region.Hit.{Hit}
use Rattle.abuf_raster.specs.Region.{Region}
use Rattle.abuf_raster.specs.Triangle.{Triangle}
use Rattle.abuf_raster.specs.Coverage.{mask}
use Rattle.abuf_raster.specs.Hits.{hits, hit_at}
use Rattle.abuf_raster.specs.Walk.{hit_of, found, pixel_hit, row_hits, block_hits}
use Rattle.abuf_raster.proofs.Blocks.{row_more, block_more}
use Rattle.abuf_raster.proofs.Hits.{hits_few}

-- ---- hits

-- An option is at most one hit.
found_few : (o : Option Hit) → length (found o) ≤ 1
found_few None = omega arith
found_few (Some h) = omega arith

module _ (t : Triangle) (n : ℕ) (os : List (ℤ × ℤ)) where
  -- one pixel more in a row, which has no hit where it is rejected
  pub row_count : (x c y m k : ℕ) (v : Bool) → length (row_hits t n os x c y) ≤ m → (v ≡ true → 1 ≤ k) → (v ≡ false → mask t os (x + c) y ≡ 0) → length (row_hits t n os x (c + 1) y) ≤ m + k
  row_count x c y m k true h i f = let j = i refl in rw (row_more t n os x c y) (omega (arith, length-append (row_hits t n os x c y) (found (pixel_hit t n os y (x + c))), found_few (pixel_hit t n os y (x + c)), h))
  row_count x c y m k false h i f =
      let e : found (pixel_hit t n os y (x + c)) ≡ [] = ap (λ (k : ℕ). found (hit_of n (x + c) y k)) (f refl) in
      rw (row_more t n os x c y) (omega (arith, length-append (row_hits t n os x c y) (found (pixel_hit t n os y (x + c))), ap (λ (hs : List Hit). length hs) e, h))

  -- one row more
  pub block_count : (x w y c m k : ℕ) → length (block_hits t n os x w y c) ≤ m → length (row_hits t n os x w (y + c)) ≤ k → length (block_hits t n os x w y (c + 1)) ≤ m + k
  block_count x w y c m k h i = rw (block_more t n os x w y c) (omega (arith, length-append (block_hits t n os x w y c) (row_hits t n os x w (y + c)), h, i))

  -- No more hits than pixels.
  pub block_few : (x w y h : ℕ) → length (block_hits t n os x w y h) ≤ w * h
  block_few x w y zero = omega arith
  block_few x w y (suc h) =
      let e : suc h ≡ h + 1 = omega arith in
      let m = block_count x w y h (w * h) w (block_few x w y h) (hits_few (pixel_hit t n os (y + h)) w x) in
      omega (arith, m, ap (λ (k : ℕ). length (block_hits t n os x w y k)) e)

-- as many hits whatever the number of the triangle
module _ (t : Triangle) (n m : ℕ) (os : List (ℤ × ℤ)) (r : Region) where
  -- At each of some places.
  each_alike : (count p : ℕ) → length (filter_map (hit_at t n os r) (range_with_len p count)) ≡ length (filter_map (hit_at t m os r) (range_with_len p count))
  each_alike zero p = refl
  each_alike (suc count) p = go (each_alike count (p + 1)) (mask t os (r.x0 + p % r.w) (r.y0 + p / r.w) == 0) refl where
    go : length (filter_map (hit_at t n os r) (range_with_len (p + 1) count)) ≡ length (filter_map (hit_at t m os r) (range_with_len (p + 1) count))
        → (v : Bool) → v ≡ (mask t os (r.x0 + p % r.w) (r.y0 + p / r.w) == 0)
        → length (cons_option (hit_at t n os r p) (filter_map (hit_at t n os r) (range_with_len (p + 1) count))) ≡ length (cons_option (hit_at t m os r p) (filter_map (hit_at t m os r) (range_with_len (p + 1) count)))
    go k true e = rw (← e) k
    go k false e = rw (← e) (ap suc k)

  -- And in the region.
  pub counts_alike : length (hits t n os r) ≡ length (hits t m os r)
  counts_alike = each_alike (r.w * r.h) 0

-- ---- pixels

-- A length is its first piece of 8 and the rest.
parts_of : (h : ℕ) → min 8 h + (h - 8) ≡ h
parts_of h = omega arith

-- those of the tiles of a box within a region
pub box_pixels : (w h rw rh k : ℕ) → k ≡ h - 8 → w ≤ rw → h ≤ rh → w * min 8 h + w * k ≤ rw * rh
box_pixels w h rw rh k e a b =
    let l = mul-le w h rw rh a b in
    let s : w * (min 8 h + (h - 8)) ≡ w * h = ap (λ (z : ℕ). w * z) (parts_of h) in
    omega (arith, l, s, ap (λ (z : ℕ). w * z) e)

-- those of one tile more, to the right, and at the end of a band
pub pixels_right : (x e h k : ℕ) → 8 < e - x → min 8 (e - x) * h + ((e - (x + 8)) * h + k) ≡ (e - x) * h + k
pixels_right x e h k l =
    let b : ℕ = e - x - 8 in
    let f : e - x ≡ 8 + b = omega arith in
    let g : min 8 (e - x) ≡ 8 = omega arith in
    let i : e - (x + 8) ≡ b = omega arith in
    omega (arith, ap (λ (z : ℕ). z * h) f, ap (λ (z : ℕ). z * h) g, ap (λ (z : ℕ). z * h) i)

-- And at the end of a band.
pub pixels_down : (x e w y f : ℕ) → e - x ≤ 8 → min 8 (e - x) * min 8 (f - y) + (w * min 8 (f - (y + 8)) + w * (f - (y + 8 + 8))) ≡ (e - x) * min 8 (f - y) + w * (f - (y + 8))
pixels_down x e w y f l =
    let k : ℕ = f - (y + 8) in
    let g : min 8 (e - x) ≡ e - x = omega arith in
    let i : f - (y + 8 + 8) ≡ k - 8 = omega arith in
    let s : w * (min 8 k + (k - 8)) ≡ w * k = ap (λ (z : ℕ). w * z) (parts_of k) in
    omega (arith, ap (λ (z : ℕ). z * min 8 (f - y)) g, ap (λ (z : ℕ). w * z) i, s)
