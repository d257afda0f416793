-- Depth keys and their bounds from a plane's coefficients.
use Rattle.std.proofs.Common.{◌≡◌, ℕ, ◌+◌, ◌-◌, ◌*◌, ◌/◌, ◌^◌, ◌<◌, ◌≤◌, min, ℤ, pos, negsuc, ◌+ℤ◌, ◌-ℤ◌, ◌*ℤ◌, ◌<ℤ◌, ◌≤ℤ◌, unsigned_abs, true, Option, Some, IfSome, w64, arith, ap, ap₂, refl, sym, subst, ◌∙◌}
use Rattle.std.specs.Int.{int_wrap}
use Rattle.std.proofs.lemmas.Int.{ints, int_wrap-add_left, int_wrap_fits, fits_signed_from_abs}
use Rattle.abuf_num.specs.Division.{floor_div}
use Rattle.abuf_raster.specs.declared.point.Point.{Point}
use Rattle.abuf_raster.specs.declared.plane.Coefficients.{Coefficients}
use Rattle.abuf_raster.specs.Edge.{edge_function}
use Rattle.abuf_raster.specs.Triangle.{Triangle, positive_order}
use Rattle.abuf_raster.specs.Coverage.{all_accept}
use Rattle.abuf_raster.specs.Depth.{weighted_depth, depth_of, min_depth, max_depth}
use Rattle.abuf_raster.specs.Slopes.{slope_across, slope_down}
use Rattle.abuf_raster.specs.Plane.{IsPlane, sum_at}
use Rattle.abuf_raster.proofs.Bounds.{abs-add, abs-mul}
use Rattle.abuf_raster.proofs.Linear.{E_sum}
use Rattle.abuf_raster.proofs.Means.{weights, mean_high, key_between, abs_at_most}
use Rattle.abuf_raster.proofs.Spread.{div_keeps}
use Rattle.abuf_raster.proofs.Planes.{depth_from}

-- the plane of a triangle, told of its coefficients
pub plane_of : (t v : Triangle) (o : Option Coefficients) (p : Coefficients) → IfSome o (λ c. IsPlane (positive_order v) c) → o ≡ Some p → v ≡ t → IsPlane (positive_order t) p
plane_of t v o p h e f = subst (λ (w : Triangle). IsPlane (positive_order w) p) f (subst (λ (m : Option Coefficients). IfSome m (λ c. IsPlane (positive_order v) c)) e h)

-- a weighted sum of three weights that are not negative
record IsNatural (z : ℤ) (k m : ℕ) : Type 0 where
  number : ℕ
  is : z ≡ pos number
  few : number < k * (m + 1)

-- It is a natural number below the sum of the weights times the greatest and one.
natural_sum : (e f g d : ℤ) (p q r k m : ℕ) → pos 0 ≤ℤ e → pos 0 ≤ℤ f → pos 0 ≤ℤ g → e +ℤ f +ℤ g ≡ d → d ≡ pos k → 0 < k → p ≤ m → q ≤ m → r ≤ m
    → IsNatural (e *ℤ pos p +ℤ f *ℤ pos q +ℤ g *ℤ pos r) k m
natural_sum (negsuc e) f g d p q r k m he hf hg s t some _ _ _ = absurd he.le
natural_sum (pos e) (negsuc f) g d p q r k m he hf hg s t some _ _ _ = absurd hf.le
natural_sum (pos e) (pos f) (negsuc g) d p q r k m he hf hg s t some _ _ _ = absurd hg.le
natural_sum (pos e) (pos f) (pos g) d p q r k m he hf hg s t some hp hq hr =
    let n : e + f + g ≡ k = omega (arith, ints, s, t) in
    record {
      number = e * p + f * q + g * r;
      is = refl;
      few = let h = mean_high e f g p q r m hp hq hr (omega arith) in subst (λ (j : ℕ). e * p + f * q + g * r < j) (ap (λ (j : ℕ). (m + 1) * j) n ∙ turn (m + 1) k) h;
    }
  where
    turn : (x y : ℕ) → x * y ≡ y * x
    turn x y = omega arith

-- what coefficients tell of the key at a sample that the triangle covers
pub record IsKeyOf (u : Triangle) (p : Coefficients) (s : Point) : Type 0 where
  pub number : ℕ
  pub depth : weighted_depth u s ≡ pos number
  pub room : number < 2 ^ 62
  pub key : unsigned_abs (depth_of u s) ≡ number / p.area.divisor
  pub small : number / p.area.divisor ≤ 16777215

-- It is told of a plane at a sample that its edges accept.
pub key_of : (u : Triangle) (p : Coefficients) (s : Point) → IsPlane u p → all_accept u.a u.b u.c s ≡ true → IsKeyOf u p s
key_of u p s h covered =
    let w = weights u s covered in
    let d : ℕ = p.area.divisor in
    let n = natural_sum (edge_function u.b u.c s) (edge_function u.c u.a s) (edge_function u.a u.b s) (edge_function u.a u.b u.c) u.qa u.qb u.qc d (max_depth u)
    w.0 w.1 w.2 (E_sum u.a u.b u.c s) h.area p.area.some (omega arith) (omega arith) (omega arith) in
    let k : unsigned_abs (depth_of u s) ≡ n.number / d = ap unsigned_abs (ap₂ floor_div n.is h.area) in
    let b = key_between u s (subst (λ (z : ℤ). pos 0 <ℤ z) (sym h.area) (above d p.area.some)) covered in
    record {
      number = n.number;
      depth = n.is;
      room = let few = n.few in let all = h.depths in omega arith;
      key = k;
      small = subst (λ (j : ℕ). j ≤ 16777215) k (omega (arith, abs_at_most (depth_of u s) (min_depth u) (max_depth u) b.0 b.1, h.nearest));
    }
  where
    above : (j : ℕ) → 0 < j → pos 0 <ℤ pos j
    above j l = omega (arith, ints)

-- a sum that is small enough, as it is after wrapping
unwrapped : (n : ℕ) → n < 2 ^ 63 → int_wrap w64 (pos n) ≡ pos n
unwrapped n h = int_wrap_fits w64 (pos n) (fits_signed_from_abs w64 (pos n) h)

-- The value of the sum is the key.
pub key_told : (u : Triangle) (p : Coefficients) (s : Point) (r : ℕ) → IsPlane u p → IsKeyOf u p s
    → ((n : ℕ) → sum_at p s ≡ pos n → r ≡ min (n / p.area.divisor) 16777215) → r ≡ unsigned_abs (depth_of u s)
key_told u p s r h k told =
    let e = told k.number (h.sum s ∙ (ap (int_wrap w64) k.depth ∙ unwrapped k.number (let l = k.room in omega arith))) in
    omega (arith, e, k.key, k.small)

-- ---- bounds

-- how far the weighted depth is from that at a position near by
pub near_centre : (u : Triangle) (c s : Point) (reach : ℕ) → unsigned_abs (s.x -ℤ c.x) ≤ reach → unsigned_abs (s.y -ℤ c.y) ≤ reach
    → unsigned_abs (weighted_depth u s -ℤ weighted_depth u c) ≤ (unsigned_abs (slope_across u) + unsigned_abs (slope_down u)) * reach
near_centre u c s reach hx hy =
    let d = depth_from u c s in
    let x = abs-mul (slope_across u) (s.x -ℤ c.x) (unsigned_abs (slope_across u)) reach (omega arith) hx in
    let y = abs-mul (slope_down u) (s.y -ℤ c.y) (unsigned_abs (slope_down u)) reach (omega arith) hy in
    let b = abs-add (slope_across u *ℤ (s.x -ℤ c.x)) (slope_down u *ℤ (s.y -ℤ c.y)) _ _ x y in
    apart (weighted_depth u s) (weighted_depth u c) (slope_across u *ℤ (s.x -ℤ c.x) +ℤ slope_down u *ℤ (s.y -ℤ c.y)) _ d (omega (arith, b))
  where
    apart : (v w z : ℤ) (n : ℕ) → v ≡ w +ℤ z → unsigned_abs z ≤ n → unsigned_abs (v -ℤ w) ≤ n
    apart v w z n e h = omega (arith, ints)

-- Bounds that are told where the sum at the centre is near a key's are bounds of the key.
pub between_bounds : (u : Triangle) (p : Coefficients) (c s : Point) (lo hi spread : ℕ) → IsPlane u p → (k : IsKeyOf u p s) → spread ≤ 2 ^ 60
    → unsigned_abs (weighted_depth u s -ℤ weighted_depth u c) ≤ spread
    → ((top : ℕ) → top < 2 ^ 63 → int_wrap w64 (sum_at p c +ℤ pos spread) ≡ pos top → (lo ≡ min ((top - 2 * spread) / p.area.divisor) 16777215) × (hi ≡ min (top / p.area.divisor) 16777215))
    → (lo ≤ k.number / p.area.divisor) × (k.number / p.area.divisor ≤ hi)
between_bounds u p c s lo hi spread h k few near told =
    let w : ℤ = weighted_depth u c in
    let top : ℕ = unsigned_abs (w +ℤ pos spread) in
    let is : (w +ℤ pos spread) ≡ pos top = natural (weighted_depth u s) w k.number spread k.depth near in
    let a : k.number ≤ top = under (weighted_depth u s) w k.number spread k.depth near in
    let b : top - 2 * spread ≤ k.number = over (weighted_depth u s) w k.number spread k.depth near in
    let r = k.room in
    let room : top < 2 ^ 63 = omega arith in
    let e : int_wrap w64 (sum_at p c +ℤ pos spread) ≡ pos top =
    ap (λ (z : ℤ). int_wrap w64 (z +ℤ pos spread)) (h.sum c) ∙ (int_wrap-add_left w64 w (pos spread) ∙ (ap (int_wrap w64) is ∙ unwrapped top room)) in
    let t = told top room e in
    let l = div_keeps (top - 2 * spread) k.number p.area.divisor p.area.some b in
    let g = div_keeps k.number top p.area.divisor p.area.some a in
    let small = k.small in
    (omega (arith, t.0, l), omega (arith, t.1, g, small))
  where
    natural : (v w : ℤ) (n m : ℕ) → v ≡ pos n → unsigned_abs (v -ℤ w) ≤ m → (w +ℤ pos m) ≡ pos (unsigned_abs (w +ℤ pos m))
    natural v w n m e l = omega (arith, ints)

    under : (v w : ℤ) (n m : ℕ) → v ≡ pos n → unsigned_abs (v -ℤ w) ≤ m → n ≤ unsigned_abs (w +ℤ pos m)
    under v w n m e l = omega (arith, ints)

    over : (v w : ℤ) (n m : ℕ) → v ≡ pos n → unsigned_abs (v -ℤ w) ≤ m → unsigned_abs (w +ℤ pos m) - 2 * m ≤ n
    over v w n m e l = omega (arith, ints)
