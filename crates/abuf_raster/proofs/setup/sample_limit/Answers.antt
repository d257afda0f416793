use Rattle.std.proofs.Common.{◌≡◌, ◌^◌, ◌≤◌, ◌<◌, ℤ, ◌+ℤ◌, ◌-ℤ◌, ◌*ℤ◌, ◌+◌, neg_ℤ, pos, unsigned_abs, FitsSigned, to_z, of_z, w32, w64, arith, ap, ap₂, ◌∙◌}
use Rattle.std.proofs.lemmas.Int.{ints}
use Rattle.abuf_raster.specs.Values.{edge_change}
use Rattle.abuf_raster.proofs.Bounds.{abs-add, abs-sub, abs-mul, back64}
use Rattle.abuf_raster.proofs.setup.sample_limit.Goals as goal
use Rattle.abuf_raster.proofs.setup.sample_limit.Goals.{After-short_product-across}

-- The sum of two numbers that 54 bits hold, at an i64.
sum64 : (x y : ℤ) → unsigned_abs x ≤ 2 ^ 53 → unsigned_abs y ≤ 2 ^ 53 → to_z w64 (of_z w64 (to_z w64 (of_z w64 x) +ℤ to_z w64 (of_z w64 y))) ≡ x +ℤ y
sum64 x y p q = omega (arith, ints)

-- An offset is read back.
back32 : (o : ℤ) → unsigned_abs o ≤ 8 → to_z w32 (of_z w32 o) ≡ o
back32 o h = omega (arith, ints)

-- A product is that of the difference and the distance.
part : (p d x y s o : ℤ) → unsigned_abs x < 2 ^ 45 → unsigned_abs y < 2 ^ 45 → unsigned_abs o ≤ 8 → d ≡ to_z w64 (of_z w64 x) -ℤ to_z w64 (of_z w64 y) → s ≡ pos 16 *ℤ to_z w32 (of_z w32 o)
    → p ≡ to_z w64 (of_z w64 d) *ℤ to_z w64 (of_z w64 s) → p ≡ (x -ℤ y) *ℤ (pos 16 *ℤ o)
part p d x y s o hx hy ho e f g =
    let u : d ≡ x -ℤ y = e ∙ ap₂ (λ (m n : ℤ). m -ℤ n) (back64 x (omega arith)) (back64 y (omega arith)) in
    let v : s ≡ pos 16 *ℤ o = f ∙ ap (λ (m : ℤ). pos 16 *ℤ m) (back32 o ho) in
    g ∙ ap₂ (λ (m n : ℤ). m *ℤ n)
    (back64 d (rw u (omega (arith, abs-sub x y (2 ^ 45) (2 ^ 45) (omega arith) (omega arith)))) ∙ u)
    (back64 s (rw v (omega (arith, abs-mul (pos 16) o 16 8 (omega arith) ho))) ∙ v)

pub overflow_add-result : goal.overflow_add-result
overflow_add-result c = omega (arith, ints, c.short_product-down.ensures.small, c.short_product-across.ensures.small)

-- Its negative fits.
fits_back : (x y : ℤ) → unsigned_abs x ≤ 2 ^ 53 → unsigned_abs y ≤ 2 ^ 53 → FitsSigned w64 (pos 0 -ℤ to_z w64 (of_z w64 (to_z w64 (of_z w64 x) +ℤ to_z w64 (of_z w64 y))))
fits_back x y p q = rw (sum64 x y p q) (omega (arith, ints))

pub overflow_sub-result : goal.overflow_sub-result
overflow_sub-result c = fits_back c.short_product-down.result c.short_product-across.result c.short_product-down.ensures.small c.short_product-across.ensures.small

-- What is negated is the sum of the two.
taken_back : (x y : ℤ) → unsigned_abs x ≤ 2 ^ 53 → unsigned_abs y ≤ 2 ^ 53 → to_z w64 (of_z w64 (pos 0 -ℤ to_z w64 (of_z w64 (to_z w64 (of_z w64 x) +ℤ to_z w64 (of_z w64 y))))) ≡ neg_ℤ (x +ℤ y)
taken_back x y p q =
    let z : pos 0 -ℤ (x +ℤ y) ≡ neg_ℤ (x +ℤ y) = omega (arith, ints) in
    ap (λ (s : ℤ). to_z w64 (of_z w64 (pos 0 -ℤ s))) (sum64 x y p q) ∙ (back64 (pos 0 -ℤ (x +ℤ y)) (omega (arith, ints)) ∙ z)

limit_is : (c : After-short_product-across) → to_z w64 (of_z w64 (pos 0 -ℤ to_z w64 (of_z w64 (to_z w64 (of_z w64 c.short_product-down.result) +ℤ to_z w64 (of_z w64 c.short_product-across.result)))))
    ≡ neg_ℤ (c.short_product-down.result +ℤ c.short_product-across.result)
limit_is c = taken_back c.short_product-down.result c.short_product-across.result c.short_product-down.ensures.small c.short_product-across.ensures.small

pub returns-clause-value : goal.returns-clause-value
returns-clause-value c =
    let o : ℤ × ℤ = c.offset-offset.result in
    let down = part c.short_product-down.result c.difference.result c.args.b.x c.args.a.x c.sixteenths.result o.1 (omega arith) (omega arith) c.offset-offset.ensures.small.1 c.difference.ensures.value c.sixteenths.ensures.value c.short_product-down.ensures.value in
    let across = part c.short_product-across.result c.difference-2.result c.args.a.y c.args.b.y c.sixteenths-2.result o.0 (omega arith) (omega arith) c.offset-offset.ensures.small.0 c.difference-2.ensures.value c.sixteenths-2.ensures.value c.short_product-across.ensures.value in
    limit_is (goal.at.returns-clause-value c).After-short_product-across
    ∙ (ap₂ (λ (m n : ℤ). neg_ℤ (m +ℤ n)) down across
    ∙ ap (λ (p : ℤ × ℤ). neg_ℤ (edge_change c.args.a c.args.b (pos 16 *ℤ p.0) (pos 16 *ℤ p.1))) c.offset-offset.ensures.value)

pub returns-clause-small : goal.returns-clause-small
returns-clause-small c =
    let x = c.short_product-down.result in
    let y = c.short_product-across.result in
    let small = abs-add x y (2 ^ 53) (2 ^ 53) c.short_product-down.ensures.small c.short_product-across.ensures.small in
    rw (limit_is (goal.at.returns-clause-small c).After-short_product-across) (bounded (x +ℤ y) small) where
      bounded : (z : ℤ) → unsigned_abs z ≤ 2 ^ 53 + 2 ^ 53 → unsigned_abs (neg_ℤ z) ≤ 2 ^ 54
      bounded z h = omega (arith, ints)
