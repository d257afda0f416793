-- Bounds on sums, differences and products of signed numbers, by their absolute values.
use Rattle.std.proofs.Common.{◌≡◌, ℕ, ◌+◌, ◌-◌, ◌*◌, ◌^◌, ◌<◌, ◌≤◌, ℤ, pos, ◌+ℤ◌, ◌-ℤ◌, ◌*ℤ◌, unsigned_abs, FitsSigned, to_z, of_z, w64, arith, mul-le-mul, ap, ap₂, ◌∙◌}
use Rattle.abuf_raster.specs.Samples.{sample_position, pixel_centre}
use Rattle.std.specs.Int.{w128}
use Rattle.std.proofs.lemmas.Int.{ints, unsigned_abs-mul}

-- A sum is no farther from 0 than the two bounds together.
pub abs-add : (a b : ℤ) (m n : ℕ) → unsigned_abs a ≤ m → unsigned_abs b ≤ n → unsigned_abs (a +ℤ b) ≤ m + n
abs-add a b m n p q = omega (arith, ints)

-- Nor is a difference.
pub abs-sub : (a b : ℤ) (m n : ℕ) → unsigned_abs a ≤ m → unsigned_abs b ≤ n → unsigned_abs (a -ℤ b) ≤ m + n
abs-sub a b m n p q = omega (arith, ints)

-- A product is no farther from 0 than the product of the bounds.
pub abs-mul : (a b : ℤ) (m n : ℕ) → unsigned_abs a ≤ m → unsigned_abs b ≤ n → unsigned_abs (a *ℤ b) ≤ m * n
abs-mul a b m n p q = omega (arith, unsigned_abs-mul a b, mul-le-mul p q)

-- what `x - y` gives at an i64, where both are below 2 ^ 62
pub minus64 : (x y : ℤ) → unsigned_abs x < 2 ^ 62 → unsigned_abs y < 2 ^ 62 → to_z w64 (of_z w64 (to_z w64 (of_z w64 x) -ℤ to_z w64 (of_z w64 y))) ≡ x -ℤ y
minus64 x y p q = omega (arith, ints)

-- what `x - y` gives at an i128, where both are bounded
pub minus128 : (x y : ℤ) (m n : ℕ) → unsigned_abs x ≤ m → unsigned_abs y ≤ n → m + n < 2 ^ 127
    → FitsSigned w128 (to_z w128 (of_z w128 x) -ℤ to_z w128 (of_z w128 y))
    × (to_z w128 (of_z w128 (to_z w128 (of_z w128 x) -ℤ to_z w128 (of_z w128 y))) ≡ x -ℤ y)
    × (unsigned_abs (to_z w128 (of_z w128 (to_z w128 (of_z w128 x) -ℤ to_z w128 (of_z w128 y)))) ≤ m + n)
minus128 x y m n p q h =
    let e : to_z w128 (of_z w128 (to_z w128 (of_z w128 x) -ℤ to_z w128 (of_z w128 y))) ≡ x -ℤ y = omega (arith, ints) in
    (omega (arith, ints), e, rw e (abs-sub x y m n p q))

-- the product of two differences of parts below 2 ^ 45
pub product_of : (p x y u v : ℤ) → unsigned_abs x < 2 ^ 45 → unsigned_abs y < 2 ^ 45 → unsigned_abs u < 2 ^ 45 → unsigned_abs v < 2 ^ 45
    → p ≡ to_z w64 (of_z w64 (to_z w64 (of_z w64 x) -ℤ to_z w64 (of_z w64 y))) *ℤ to_z w64 (of_z w64 (to_z w64 (of_z w64 u) -ℤ to_z w64 (of_z w64 v)))
    → (p ≡ (x -ℤ y) *ℤ (u -ℤ v)) × (unsigned_abs p ≤ 2 ^ 92 - 1)
product_of p x y u v hx hy hu hv e =
    let e1 : p ≡ (x -ℤ y) *ℤ (u -ℤ v) = e ∙ ap₂ (λ (a b : ℤ). a *ℤ b) (minus64 x y (omega arith) (omega arith)) (minus64 u v (omega arith) (omega arith)) in
    let m = abs-mul (x -ℤ y) (u -ℤ v) (2 ^ 46 - 2) (2 ^ 46 - 2)
    (omega (arith, abs-sub x y (2 ^ 45 - 1) (2 ^ 45 - 1) (omega arith) (omega arith))) (omega (arith, abs-sub u v (2 ^ 45 - 1) (2 ^ 45 - 1) (omega arith) (omega arith))) in
    (e1, rw e1 (omega (arith, m)))

-- what `x + y + z` gives at an i128, where each is bounded
pub plus128 : (x y z : ℤ) (m : ℕ) → unsigned_abs x ≤ m → unsigned_abs y ≤ m → unsigned_abs z ≤ m → 3 * m < 2 ^ 127
    → FitsSigned w128 (to_z w128 (of_z w128 (to_z w128 (of_z w128 x) +ℤ to_z w128 (of_z w128 y))) +ℤ to_z w128 (of_z w128 z))
    × (to_z w128 (of_z w128 (to_z w128 (of_z w128 (to_z w128 (of_z w128 x) +ℤ to_z w128 (of_z w128 y))) +ℤ to_z w128 (of_z w128 z))) ≡ x +ℤ y +ℤ z)
    × (unsigned_abs (to_z w128 (of_z w128 (to_z w128 (of_z w128 (to_z w128 (of_z w128 x) +ℤ to_z w128 (of_z w128 y))) +ℤ to_z w128 (of_z w128 z)))) ≤ 3 * m)
plus128 x y z m p q r h =
    let e : to_z w128 (of_z w128 (to_z w128 (of_z w128 (to_z w128 (of_z w128 x) +ℤ to_z w128 (of_z w128 y))) +ℤ to_z w128 (of_z w128 z))) ≡ x +ℤ y +ℤ z = omega (arith, ints) in
    (omega (arith, ints), e, rw e (omega (arith, abs-add (x +ℤ y) z (m + m) m (abs-add x y m m p q) r)))

-- a weighted edge value, read at the edge's own value
pub weight_is : (w e z : ℤ) (q : ℕ) → w ≡ to_z w128 (of_z w128 e) *ℤ pos q → e ≡ z → unsigned_abs e < 2 ^ 93 → w ≡ z *ℤ pos q
weight_is w e z q h k b =
    let s : to_z w128 (of_z w128 e) ≡ e = omega (arith, ints) in
    h ∙ ap (λ (y : ℤ). y *ℤ pos q) (s ∙ k)

-- A number that fits an i128 is read back.
pub back128 : (z : ℤ) → unsigned_abs z < 2 ^ 127 → to_z w128 (of_z w128 z) ≡ z
back128 z h = omega (arith, ints)

-- the sample with no offset is the centre
pub sample_position-centre : (x y : ℕ) → sample_position (pos 0, pos 0) x y ≡ pixel_centre x y
sample_position-centre x y = λ i. record { x = ex i; y = ey i } where
  ex : pos (256 * x + 128) +ℤ pos 16 *ℤ pos 0 ≡ pos (256 * x + 128)
  ex = omega (arith, ints)

  ey : pos (256 * y + 128) +ℤ pos 16 *ℤ pos 0 ≡ pos (256 * y + 128)
  ey = omega (arith, ints)

-- A number that fits an i64 is read back.
pub back64 : (z : ℤ) → unsigned_abs z < 2 ^ 63 → to_z w64 (of_z w64 z) ≡ z
back64 z h = omega (arith, ints)

-- the product of factors of at most 2 ^ 31 and 2 ^ 30, at an i64
pub product64 : (x y : ℤ) → unsigned_abs x ≤ 2 ^ 31 → unsigned_abs y ≤ 2 ^ 30 → to_z w64 (of_z w64 (to_z w64 (of_z w64 x) *ℤ to_z w64 (of_z w64 y))) ≡ x *ℤ y
product64 x y p q =
    ap₂ (λ (a b : ℤ). to_z w64 (of_z w64 (a *ℤ b))) (back64 x (omega arith)) (back64 y (omega arith))
    ∙ back64 (x *ℤ y) (omega (arith, abs-mul x y (2 ^ 31) (2 ^ 30) p q))

-- the same of factors of at most 2 ^ 46 and 2 ^ 7
pub short64 : (x y : ℤ) → unsigned_abs x ≤ 2 ^ 46 → unsigned_abs y ≤ 2 ^ 7 → to_z w64 (of_z w64 (to_z w64 (of_z w64 x) *ℤ to_z w64 (of_z w64 y))) ≡ x *ℤ y
short64 x y p q =
    ap₂ (λ (a b : ℤ). to_z w64 (of_z w64 (a *ℤ b))) (back64 x (omega arith)) (back64 y (omega arith))
    ∙ back64 (x *ℤ y) (omega (arith, abs-mul x y (2 ^ 46) (2 ^ 7) p q))

-- what `x + y + z` gives at an i64, where each is bounded
pub plus64 : (x y z : ℤ) (m : ℕ) → unsigned_abs x ≤ m → unsigned_abs y ≤ m → unsigned_abs z ≤ m → m ≤ 2 ^ 61
    → FitsSigned w64 (to_z w64 (of_z w64 x) +ℤ to_z w64 (of_z w64 y))
    × FitsSigned w64 (to_z w64 (of_z w64 (to_z w64 (of_z w64 x) +ℤ to_z w64 (of_z w64 y))) +ℤ to_z w64 (of_z w64 z))
    × (to_z w64 (of_z w64 (to_z w64 (of_z w64 (to_z w64 (of_z w64 x) +ℤ to_z w64 (of_z w64 y))) +ℤ to_z w64 (of_z w64 z))) ≡ x +ℤ y +ℤ z)
    × (unsigned_abs (to_z w64 (of_z w64 (to_z w64 (of_z w64 (to_z w64 (of_z w64 x) +ℤ to_z w64 (of_z w64 y))) +ℤ to_z w64 (of_z w64 z)))) ≤ 3 * m)
plus64 x y z m p q r h =
    let e : to_z w64 (of_z w64 (to_z w64 (of_z w64 (to_z w64 (of_z w64 x) +ℤ to_z w64 (of_z w64 y))) +ℤ to_z w64 (of_z w64 z))) ≡ x +ℤ y +ℤ z = omega (arith, ints) in
    (omega (arith, ints), omega (arith, ints), e, rw e (omega (arith, abs-add (x +ℤ y) z (m + m) m (abs-add x y m m p q) r)))

-- a weighted difference, read at the coordinates
pub weighted64 : (w d x y : ℤ) (q : ℕ) → unsigned_abs x < 2 ^ 29 → unsigned_abs y < 2 ^ 29
    → d ≡ to_z w64 (of_z w64 x) -ℤ to_z w64 (of_z w64 y) → w ≡ to_z w64 (of_z w64 d) *ℤ pos q → w ≡ (x -ℤ y) *ℤ pos q
weighted64 w d x y q hx hy e f =
    let g : d ≡ x -ℤ y = e ∙ ap₂ (λ (a b : ℤ). a -ℤ b) (back64 x (omega arith)) (back64 y (omega arith)) in
    f ∙ ap (λ (z : ℤ). z *ℤ pos q) (back64 d (rw g (omega (arith, abs-sub x y (2 ^ 29) (2 ^ 29) (omega arith) (omega arith)))) ∙ g)
