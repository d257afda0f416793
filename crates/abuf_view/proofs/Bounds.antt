-- Bounds on what the camera computes.
use Rattle.std.proofs.Common.{◌≡◌, ℕ, zero, suc, ◌+◌, ◌-◌, ◌*◌, ◌/◌, ◌^◌, ◌<◌, ◌≤◌, ℤ, pos, negsuc, ◌+ℤ◌, ◌-ℤ◌, ◌*ℤ◌, ◌<ℤ◌, ◌≤ℤ◌, neg_ℤ, unsigned_abs, arith, refl, mul-le-mul, mul-le-mul_left, subst, inl, inr, to_z, of_z, w64, SFits}
use Rattle.abuf_view.specs.declared.eye.EyePoint.{EyePoint}
use Rattle.abuf_view.specs.CutLaw.{IsBetween}
use Rattle.abuf_view.specs.NearPlane.{IsNearPlane, IsEyePoint}
use Rattle.std.proofs.lemmas.Bool.{cases_lt}
use Rattle.std.proofs.lemmas.Int.{ints, unsigned_abs-mul}
use Rattle.std.proofs.lemmas.Nat.{div_below}
use Rattle.abuf_num.specs.Division.{floor_div, round_div, nearest}

-- ---- absolute values
-- A product is no farther from 0 than the product of the bounds.
pub abs-mul : (a b : ℤ) (m n : ℕ) → unsigned_abs a ≤ m → unsigned_abs b ≤ n → unsigned_abs (a *ℤ b) ≤ m * n
abs-mul a b m n p q = omega (arith, unsigned_abs-mul a b, mul-le-mul p q)

-- ---- the turn

-- Twice a product is at most the sum of the squares: of x and x + k.
twice_from : (x k : ℕ) → 2 * (x * (x + k)) ≤ x * x + (x + k) * (x + k)
twice_from x k = omega arith

-- And of any two.
pub twice_product : (x y : ℕ) → 2 * (x * y) ≤ x * x + y * y
twice_product x y = elim (cases_lt x y) [
  | inl h ↦ let e : x + (y - x) ≡ y = omega arith in subst (λ (z : ℕ). 2 * (x * z) ≤ x * x + z * z) e (twice_from x (y - x))
  | inr h ↦ let e : y + (x - y) ≡ x = omega arith in subst (λ (z : ℕ). 2 * (z * y) ≤ z * z + y * y) e (omega (arith, twice_from y (x - y)))
]

-- A square is that of the absolute value.
pub square_is : (z : ℤ) → z *ℤ z ≡ pos (unsigned_abs z * unsigned_abs z)
square_is (pos n) = refl
square_is (negsuc n) = refl

-- the sum of four squares
abbrev pub squares : ℤ → ℤ → ℤ → ℤ → ℕ
squares a b c d = unsigned_abs a * unsigned_abs a + unsigned_abs b * unsigned_abs b + unsigned_abs c * unsigned_abs c + unsigned_abs d * unsigned_abs d

module _ (a b c d : ℤ) where
  -- The norm is that sum.
  pub norm_is : a *ℤ a +ℤ b *ℤ b +ℤ c *ℤ c +ℤ d *ℤ d ≡ pos (squares a b c d)
  norm_is = rw (square_is a, square_is b, square_is c, square_is d) refl

  -- No entry on the diagonal is above it: the first.
  pub diagonal_x : unsigned_abs (a *ℤ a +ℤ b *ℤ b -ℤ c *ℤ c -ℤ d *ℤ d) ≤ squares a b c d
  diagonal_x = rw (square_is a, square_is b, square_is c, square_is d) (omega (arith, ints))

  -- The second.
  pub diagonal_y : unsigned_abs (a *ℤ a -ℤ b *ℤ b +ℤ c *ℤ c -ℤ d *ℤ d) ≤ squares a b c d
  diagonal_y = rw (square_is a, square_is b, square_is c, square_is d) (omega (arith, ints))

  -- The third.
  pub diagonal_z : unsigned_abs (a *ℤ a -ℤ b *ℤ b -ℤ c *ℤ c +ℤ d *ℤ d) ≤ squares a b c d
  diagonal_z = rw (square_is a, square_is b, square_is c, square_is d) (omega (arith, ints))

  -- Nor is twice the sum or the difference of two products of different components.
  twice_le : (z : ℤ) → unsigned_abs z ≤ unsigned_abs (b *ℤ c) + unsigned_abs (a *ℤ d) → unsigned_abs (pos 2 *ℤ z) ≤ squares a b c d
  twice_le z h =
      let p = twice_product (unsigned_abs b) (unsigned_abs c) in
      let q = twice_product (unsigned_abs a) (unsigned_abs d) in
      omega (arith, unsigned_abs-mul (pos 2) z, unsigned_abs-mul b c, unsigned_abs-mul a d, p, q, h)

  pub twice_minus : unsigned_abs (pos 2 *ℤ (b *ℤ c -ℤ a *ℤ d)) ≤ squares a b c d
  twice_minus = twice_le (b *ℤ c -ℤ a *ℤ d) (omega (arith, ints))

  pub twice_plus : unsigned_abs (pos 2 *ℤ (b *ℤ c +ℤ a *ℤ d)) ≤ squares a b c d
  twice_plus = twice_le (b *ℤ c +ℤ a *ℤ d) (omega (arith, ints))

-- ---- quotients

-- a quotient is at most b where its dividend is at most b times the divisor
pub nearest_le : (n m b : ℕ) → 0 < m → n ≤ b * m → nearest n m ≤ b
nearest_le n m b h k = let d : nearest n m < b + 1 = div_below (2 * n + m) (2 * m) (b + 1) (omega arith) (omega arith) in omega arith

-- A negated number is as far from 0.
abs-neg : (n : ℕ) → unsigned_abs (neg_ℤ (pos n)) ≡ n
abs-neg zero = refl
abs-neg (suc n) = refl

-- The same of numbers with signs.
pub round_div_le : (n m : ℤ) (b : ℕ) → 0 < unsigned_abs m → unsigned_abs n ≤ b * unsigned_abs m → unsigned_abs (round_div n m) ≤ b
round_div_le (pos n) m b h k = nearest_le n (unsigned_abs m) b h k
round_div_le (negsuc n) m b h k = rw (abs-neg (nearest (suc n) (unsigned_abs m))) (nearest_le (suc n) (unsigned_abs m) b h k)

-- ---- the cut

-- A negative quotient, rounded down, lies between the negated bound and 0.
floor_neg : (n b d : ℕ) → 0 < d → n ≤ b * d → (neg_ℤ (pos b) ≤ℤ floor_div (neg_ℤ (pos n)) (pos d)) × (floor_div (neg_ℤ (pos n)) (pos d) ≤ℤ pos 0)
floor_neg zero b d h k = (omega (arith, ints), omega (arith, ints))
floor_neg (suc n) b d h k = let e : n / d < b = div_below n d b h (omega arith) in (omega (arith, ints), omega (arith, ints))

-- A quotient is at most b where its dividend is at most b times the divisor.
floor_pos : (n b d : ℕ) → 0 < d → n ≤ b * d → n / d ≤ b
floor_pos n b d h k = let e : n / d < b + 1 = div_below n d (b + 1) h (omega arith) in omega arith

-- v times k / d, rounded down, lies between 0 and v, where k is at most d
floor_between : (v : ℤ) (k d : ℕ) → 0 < d → k ≤ d → IsBetween (pos 0) v (floor_div (v *ℤ pos k) (pos d))
floor_between (pos n) k d h l = let e = floor_pos (n * k) n d h (mul-le-mul_left n l) in inl (omega (arith, ints), omega (arith, ints))
floor_between (negsuc n) k d h l = inr (floor_neg (suc n * k) (suc n) d h (mul-le-mul_left (suc n) l))

-- a cut's part lies between those of the two ends
pub cut_between : (p q k d : ℤ) → pos 0 <ℤ d → pos 0 ≤ℤ k → k ≤ℤ d → IsBetween p q (p +ℤ floor_div ((q -ℤ p) *ℤ k) d)
cut_between p q k (negsuc d) h g l = absurd h.lt
cut_between p q (negsuc k) (pos d) h g l = absurd g.le
cut_between p q (pos k) (pos d) h g l =
    elim (floor_between (q -ℤ p) k d (omega (arith, ints, h)) (omega (arith, ints, l))) [ inl f ↦ inl (omega (arith, ints), omega (arith, ints)) | inr f ↦ inr (omega (arith, ints), omega (arith, ints)) ]

-- What lies between two numbers is within the bounds of both.
within : (p q z : ℤ) (b : ℕ) → IsBetween p q z → unsigned_abs p ≤ b → unsigned_abs q ≤ b → unsigned_abs z ≤ b
within p q z b (inl e) f g = omega (arith, ints)
within p q z b (inr e) f g = omega (arith, ints)

-- So a cut's part is.
pub cut_within : (p q k d : ℤ) (b : ℕ) → pos 0 <ℤ d → pos 0 ≤ℤ k → k ≤ℤ d → unsigned_abs p ≤ b → unsigned_abs q ≤ b → unsigned_abs (p +ℤ floor_div ((q -ℤ p) *ℤ k) d) ≤ b
cut_within p q k d b h g l f e = within p q _ b (cut_between p q k d h g l) f e

-- the shift on the screen: 128 h f x over 65536 w is at most 2 ^ 44, where x is at most (2 ^ 33 - 4) / 4096 times w
pub screen_le : (h : ℕ) (f x w : ℤ) → h ≤ 4096 → pos 0 ≤ℤ f → f ≤ℤ pos 1048576 → pos 0 <ℤ w → unsigned_abs x * 4096 ≤ unsigned_abs w * 8589934588
    → unsigned_abs (round_div (pos (128 * h) *ℤ f *ℤ x) (pos 65536 *ℤ w)) ≤ 2 ^ 44
screen_le h f x w ph f0 pf w0 s =
    let a = abs-mul (pos (128 * h)) f (2 ^ 19) (2 ^ 20) (omega arith) (omega (arith, ints)) in
    let b = abs-mul (pos (128 * h) *ℤ f) x (2 ^ 39) (unsigned_abs x) (omega (arith, a)) (omega arith) in
    let c = unsigned_abs-mul (pos 65536) w in
    round_div_le (pos (128 * h) *ℤ f *ℤ x) (pos 65536 *ℤ w) (2 ^ 44) (omega (arith, ints, c)) (omega (arith, b, c, s))

-- ---- points in eye space
pub eye_point_small : (norm plane : ℤ) (s : EyePoint) → IsNearPlane norm plane → IsEyePoint norm s → (unsigned_abs s.x < 2 ^ 55) × (unsigned_abs s.y < 2 ^ 55) × (unsigned_abs s.w < 2 ^ 55)
eye_point_small norm plane s v h =
    let n : unsigned_abs norm ≤ 4194304 = omega (arith, ints, v.norm_low, v.norm_high) in
    (omega (arith, h.x_small), omega (arith, h.y_small), omega (arith, h.w_small))

-- what a cut divides by, and what it divides
pub cut_spans : (norm plane n s : ℤ) (p q : EyePoint) → IsNearPlane norm plane → plane ≤ℤ p.w → q.w <ℤ plane → n ≡ p.w -ℤ plane → s ≡ p.w -ℤ q.w → (pos 0 ≤ℤ n) × (pos 0 <ℤ s) × (n ≤ℤ s)
cut_spans norm plane n s p q v i o en es = (omega (arith, ints), omega (arith, ints), omega (arith, ints))

-- A number below 2 ^ 55 fits an i64.
pub fits55 : (z : ℤ) → unsigned_abs z < 2 ^ 55 → SFits w64 z
fits55 z h = omega (arith, ints)

-- a depth value lies from 0 to 16777215
pub depth_bound : (m w : ℤ) → pos 0 <ℤ m → m ≤ℤ w → (pos 0 ≤ℤ floor_div (pos 16777215 *ℤ m) w) × (floor_div (pos 16777215 *ℤ m) w ≤ℤ pos 16777215)
depth_bound (negsuc m) w h l = absurd h.lt
depth_bound (pos m) (negsuc w) h l = absurd l.le
depth_bound (pos m) (pos w) h l =
    let e : m ≤ w = omega (arith, ints) in
    let q = floor_pos (16777215 * m) 16777215 w (omega (arith, ints)) (omega arith) in
    (omega (arith, ints), omega (arith, ints))

-- the negative of a number that fits
pub neg_back : (z : ℤ) → unsigned_abs z < 2 ^ 56 → to_z w64 (of_z w64 (pos 0 -ℤ to_z w64 (of_z w64 z))) ≡ neg_ℤ z
neg_back z h = omega (arith, ints)
