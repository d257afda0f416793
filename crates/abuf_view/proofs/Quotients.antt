-- Quotients by a reciprocal.
use Rattle.std.proofs.Common.{◌≡◌, ◌∙◌, ℕ, zero, suc, ◌+◌, ◌*◌, ◌/◌, ◌<◌, ◌≤◌, ℤ, pos, negsuc, ◌*ℤ◌, ◌<ℤ◌, ◌≤ℤ◌, neg_ℤ, unsigned_abs, arith, refl, sym, ap}
use Rattle.std.proofs.Math.Nat.{div-div-eq-div-mul, mul-div-mul_left, div-eq_of_lt}
use Rattle.std.proofs.lemmas.Int.{ints}
use Rattle.std.proofs.lemmas.Nat.{div_below}
use Rattle.abuf_num.specs.Division.{floor_div, round_div, nearest}
use Rattle.abuf_view.specs.Screen.{signed_by}

-- the rounding shift by powers of two
pub nearest_shift : (a w : ℕ) → 0 < w → (a + 256 * w) / 512 / w ≡ nearest (128 * a) (65536 * w)
nearest_shift a w h =
    let whole : (a + 256 * w) / (512 * w) ≡ 256 * (a + 256 * w) / (256 * (512 * w)) = sym (mul-div-mul_left {m = 256} (a + 256 * w) (512 * w) (omega arith)) in
    let over : 256 * (a + 256 * w) ≡ 2 * (128 * a) + 65536 * w = omega arith in
    let under : 256 * (512 * w) ≡ 2 * (65536 * w) = omega arith in
    div-div-eq-div-mul (a + 256 * w) 512 w ∙ (whole ∙ (λ i. over i / under i))

-- 0 over a number is 0.
nearest_zero : (m : ℕ) → 0 < m → nearest 0 m ≡ 0
nearest_zero m h = div-eq_of_lt (omega arith)

-- A negative number is rounded as the positive one.
round_neg : (n m : ℕ) → 0 < m → round_div (neg_ℤ (pos n)) (pos m) ≡ neg_ℤ (pos (nearest n m))
round_neg zero m h = rw (nearest_zero m h) refl
round_neg (suc n) m h = refl

-- the shift on the screen by its size
pub part_is : (h : ℕ) (f x w : ℤ) → pos 0 ≤ℤ f → pos 0 <ℤ w → signed_by x (nearest (128 * (h * unsigned_abs f * unsigned_abs x)) (65536 * unsigned_abs w)) ≡ round_div (pos (128 * h) *ℤ f *ℤ x) (pos 65536 *ℤ w)
part_is h (negsuc f) x w f0 w0 = absurd f0.le
part_is h (pos f) x (negsuc w) f0 w0 = absurd w0.lt
part_is h (pos f) (pos x) (pos w) f0 w0 =
    let e : 128 * (h * f * x) ≡ 128 * h * f * x = omega arith in
    ap (λ (n : ℕ). pos (nearest n (65536 * w))) e
part_is h (pos f) (negsuc x) (pos w) f0 w0 =
    let e : 128 * (h * f * suc x) ≡ 128 * h * f * suc x = omega arith in
    ap (λ (n : ℕ). neg_ℤ (pos (nearest n (65536 * w)))) e ∙ sym (round_neg (128 * h * f * suc x) (65536 * w) (omega (arith, ints)))

-- The depth value by absolute values.
pub depth_is : (m w : ℤ) → pos 0 <ℤ m → pos 0 <ℤ w → 16777215 * unsigned_abs m / unsigned_abs w ≡ unsigned_abs (floor_div (pos 16777215 *ℤ m) w)
depth_is (negsuc m) w m0 w0 = absurd m0.lt
depth_is (pos m) w m0 w0 = refl

-- It is at most the greatest depth value.
pub depth_le : (m w : ℤ) → pos 0 <ℤ m → m ≤ℤ w → 16777215 * unsigned_abs m / unsigned_abs w ≤ 16777215
depth_le (negsuc m) w h l = absurd h.lt
depth_le (pos m) (negsuc w) h l = absurd l.le
depth_le (pos m) (pos w) h l =
    let e : m ≤ w = omega (arith, ints) in
    let q : 16777215 * m / w < 16777216 = div_below (16777215 * m) w 16777216 (omega (arith, ints)) (omega (arith, ints)) in
    omega arith
