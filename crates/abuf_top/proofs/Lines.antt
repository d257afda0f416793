-- The lines of a report, one sample after another, and the place of its pixel.
use Rattle.std.proofs.Common.{◌≡◌, ℕ, zero, suc, ◌+◌, ◌*◌, ◌/◌, ◌%◌, ◌<◌, List, [], ◌∷◌, ◌++◌, ap, ◌∙◌, sym, append-nil, mul-le-mul, ◌≤◌, arith}
use Rattle.std.specs.List.{flat_map, range_with_len}
use Rattle.std.proofs.lemmas.Grind.{flat_map-append}
use Rattle.std.proofs.lemmas.Nat.{div-mul-add, mod-mul-add}
use Rattle.abuf_raster.specs.Region.{Region}

-- a range that is longer by one has one number more at its end
range_suc : (a n : ℕ) → range_with_len a (suc n) ≡ range_with_len a n ++ (a + n) ∷ []
range_suc a zero = ap (λ (x : ℕ). x ∷ []) (omega arith)
range_suc a (suc n) = ap (λ (xs : List ℕ). a ∷ xs) (range_suc (a + 1) n ∙ ap (λ (x : ℕ). range_with_len (a + 1) n ++ x ∷ []) (omega arith))

-- one line more
pub one_more : (line : ℕ → List ℕ) (k : ℕ) → flat_map line (range_with_len 0 k) ++ line k ≡ flat_map line (range_with_len 0 (k + 1))
one_more line k =
    let e : k + 1 ≡ suc k = omega arith in
    sym (ap (λ (n : ℕ). flat_map line (range_with_len 0 n)) e
    ∙ (ap (flat_map line) (range_suc 0 k ∙ ap (λ (x : ℕ). range_with_len 0 k ++ x ∷ []) (omega arith))
    ∙ (flat_map-append line (range_with_len 0 k) (k ∷ [])
    ∙ ap (λ (bytes : List ℕ). flat_map line (range_with_len 0 k) ++ bytes) (append-nil (line k)))))

-- in a region whose first pixel is (0, 0), the pixel at the place of (x, y) is (x, y)
pub column_is : (r : Region) (x y : ℕ) → r.x0 ≡ 0 → x < r.w → r.x0 + (y * r.w + x) % r.w ≡ x
column_is r x y corner l = let d = mod-mul-add y r.w x l in omega (arith, d, corner)

-- and its row is that of y
pub row_is : (r : Region) (x y : ℕ) → r.y0 ≡ 0 → x < r.w → r.y0 + (y * r.w + x) / r.w ≡ y
row_is r x y corner l = let d = div-mul-add y r.w x l in omega (arith, d, corner)

-- the place of a pixel is one of its region's
pub place_within : (x y w h : ℕ) → x < w → y < h → y * w + x < w * h
place_within x y w h a b =
    let next : y + 1 ≤ h = omega arith in
    let same : w ≤ w = omega arith in
    let rows : (y + 1) * w ≤ h * w = mul-le-mul next same in
    omega (arith, rows)
