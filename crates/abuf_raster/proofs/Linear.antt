-- The edge function is linear in the place that is asked.
use Rattle.std.proofs.Common.{◌≡◌, ℤ, pos, ◌+ℤ◌, ◌-ℤ◌, ◌*ℤ◌, arith, ap, ◌∙◌}
use Rattle.std.proofs.lemmas.Int.{ints}
use Rattle.abuf_raster.specs.declared.point.Point.{Point}
use Rattle.abuf_raster.specs.Edge.{edge_function}
use Rattle.abuf_raster.proofs.Ring.{mul_add, add_mul, neg_mul, E_end, E_back}

-- p times a difference, by way of another place
by_way : (p s a c : ℤ) → p *ℤ (s -ℤ a) ≡ p *ℤ (c -ℤ a) +ℤ p *ℤ (s -ℤ c)
by_way p s a c =
    let e : s -ℤ a ≡ (c -ℤ a) +ℤ (s -ℤ c) = omega (arith, ints) in
    ap (λ (z : ℤ). p *ℤ z) e ∙ mul_add p (c -ℤ a) (s -ℤ c)

-- the edge function at s, from that at c
pub E_from : (a b c s : Point) → edge_function a b s ≡ edge_function a b c +ℤ ((b.x -ℤ a.x) *ℤ (s.y -ℤ c.y) -ℤ (b.y -ℤ a.y) *ℤ (s.x -ℤ c.x))
E_from a b c s =
    let u = by_way (b.x -ℤ a.x) s.y a.y c.y in
    let v = by_way (b.y -ℤ a.y) s.x a.x c.x in
    omega (arith, ints, u, v)

-- a step of u along the way from p to q, of v from q to r, and of both back, add up to none
around : (p q r d : ℤ) → (q -ℤ p) *ℤ d +ℤ (r -ℤ q) *ℤ d +ℤ (p -ℤ r) *ℤ d ≡ pos 0
around p q r d = simp (add_mul, neg_mul) (omega (arith, ints))

-- the edge functions of the three edges add up to the area's
pub E_sum : (a b c s : Point) → edge_function b c s +ℤ edge_function c a s +ℤ edge_function a b s ≡ edge_function a b c
E_sum a b c s =
    let f = E_from a b c s in
    let g = E_from b c c s in
    let h = E_from c a c s in
    let zg = E_end b c in
    let zh = E_back c a in
    let x = around a.x b.x c.x (s.y -ℤ c.y) in
    let y = around a.y b.y c.y (s.x -ℤ c.x) in
    omega (arith, ints, f, g, h, zg, zh, x, y)
