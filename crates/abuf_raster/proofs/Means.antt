-- The law of the key: what three edges that accept a sample say of the weighted depth there.
use Rattle.std.proofs.Common.{◌≡◌, ℕ, ◌+◌, ◌*◌, ◌/◌, ◌<◌, ◌≤◌, Bool, true, ◌&&◌, ◌||◌, ℤ, pos, negsuc, ◌+ℤ◌, ◌*ℤ◌, ◌<ℤ◌, ◌≤ℤ◌, unsigned_abs, get_or, arith, sym, refl, true≢false}
use Rattle.std.specs.Prelude.{int_lt}
use Rattle.std.specs.Ordering.{int_eq}
use Rattle.std.proofs.lemmas.Int.{ints}
use Rattle.std.proofs.lemmas.Bool.{and_parts}
use Rattle.std.proofs.lemmas.Nat.{le-div, div_below, mul-le}
use Rattle.abuf_num.specs.Division.{floor_div}
use Rattle.abuf_raster.specs.declared.point.Point.{Point}
use Rattle.abuf_raster.specs.Edge.{edge_function, is_left_edge, is_top_edge}
use Rattle.abuf_raster.specs.Triangle.{Triangle, has_area, positive_order}
use Rattle.abuf_raster.specs.Coverage.{accepts, all_accept, covers_sample}
use Rattle.abuf_raster.specs.Depth.{depth_of, depth_value, min_depth, max_depth, HasNoKeyAbove, HasNoKeyBelow}
use Rattle.abuf_raster.specs.Samples.{sample_position}
use Rattle.abuf_raster.proofs.Acceptance.{in_order, positive_area}
use Rattle.abuf_raster.proofs.Linear.{E_sum}

-- A number that passes the test of the top-left rule is not below 0.
not_below_zero : (z : ℤ) (p : Bool) → (int_lt (pos 0) z || (int_eq z (pos 0) && p)) ≡ true → pos 0 ≤ℤ z
not_below_zero (pos n) p h = omega (arith, ints)
not_below_zero (negsuc n) p h = absurd (true≢false (sym h))

-- Where an edge accepts, its edge function is not below 0.
pub accepts_not_negative : (a b s : Point) → accepts a b s ≡ true → pos 0 ≤ℤ edge_function a b s
accepts_not_negative a b s h = not_below_zero (edge_function a b s) (is_left_edge a b || is_top_edge a b) h

-- a natural mean lies between bounds of what it is of
mean_low : (e f g p q r m : ℕ) → m ≤ p → m ≤ q → m ≤ r → m * (e + f + g) ≤ e * p + f * q + g * r
mean_low e f g p q r m hp hq hr =
    let a : e * m ≤ e * p = mul-le e m e p (omega arith) hp in
    let b : f * m ≤ f * q = mul-le f m f q (omega arith) hq in
    let c : g * m ≤ g * r = mul-le g m g r (omega arith) hr in
    omega arith

-- And below the greatest and one.
pub mean_high : (e f g p q r m : ℕ) → p ≤ m → q ≤ m → r ≤ m → 0 < e + f + g → e * p + f * q + g * r < (m + 1) * (e + f + g)
mean_high e f g p q r m hp hq hr some =
    let a : e * p ≤ e * m = mul-le e p e m (omega arith) hp in
    let b : f * q ≤ f * m = mul-le f q f m (omega arith) hq in
    let c : g * r ≤ g * m = mul-le g r g m (omega arith) hr in
    omega arith

-- so the quotient of three weights that are not negative lies there too
between : (e f g d : ℤ) (p q r m n : ℕ) → pos 0 ≤ℤ e → pos 0 ≤ℤ f → pos 0 ≤ℤ g → e +ℤ f +ℤ g ≡ d → pos 0 <ℤ d → m ≤ p → m ≤ q → m ≤ r → p ≤ n → q ≤ n → r ≤ n
    → (pos m ≤ℤ floor_div (e *ℤ pos p +ℤ f *ℤ pos q +ℤ g *ℤ pos r) d) × (floor_div (e *ℤ pos p +ℤ f *ℤ pos q +ℤ g *ℤ pos r) d ≤ℤ pos n)
between (negsuc e) f g d p q r m n he hf hg s some _ _ _ _ _ _ = absurd he.le
between (pos e) (negsuc f) g d p q r m n he hf hg s some _ _ _ _ _ _ = absurd hf.le
between (pos e) (pos f) (negsuc g) d p q r m n he hf hg s some _ _ _ _ _ _ = absurd hg.le
between (pos e) (pos f) (pos g) d p q r m n he hf hg s some lp lq lr hp hq hr =
    let k : 0 < e + f + g = omega (arith, ints, s, some) in
    let low : m ≤ (e * p + f * q + g * r) / (e + f + g) = le-div m (e * p + f * q + g * r) (e + f + g) k (mean_low e f g p q r m lp lq lr) in
    let high : (e * p + f * q + g * r) / (e + f + g) < n + 1 = div_below (e * p + f * q + g * r) (e + f + g) (n + 1) k (mean_high e f g p q r n hp hq hr k) in
    rw (← s) (omega (arith, ints), omega (arith, ints))

-- the weights of the three corners at a sample that the triangle covers
pub weights : (t : Triangle) (s : Point) → all_accept t.a t.b t.c s ≡ true → (pos 0 ≤ℤ edge_function t.b t.c s) × (pos 0 ≤ℤ edge_function t.c t.a s) × (pos 0 ≤ℤ edge_function t.a t.b s)
weights t s h =
    let one = and_parts (accepts t.a t.b s && accepts t.b t.c s) (accepts t.c t.a s) h in
    let two = and_parts (accepts t.a t.b s) (accepts t.b t.c s) one.0 in
    (accepts_not_negative t.b t.c s two.1, accepts_not_negative t.c t.a s one.1, accepts_not_negative t.a t.b s two.0)

-- the law for a triangle in positive order
pub key_between : (t : Triangle) (s : Point) → pos 0 <ℤ edge_function t.a t.b t.c → all_accept t.a t.b t.c s ≡ true
    → (pos (min_depth t) ≤ℤ depth_of t s) × (depth_of t s ≤ℤ pos (max_depth t))
key_between t s some h =
    let w = weights t s h in
    between (edge_function t.b t.c s) (edge_function t.c t.a s) (edge_function t.a t.b s) (edge_function t.a t.b t.c) t.qa t.qb t.qc (min_depth t) (max_depth t)
    w.0 w.1 w.2 (E_sum t.a t.b t.c s) some
    (omega arith) (omega arith) (omega arith) (omega arith) (omega arith) (omega arith)

-- Positive order keeps the least depth value.
least_turned : (t : Triangle) → min_depth (positive_order t) ≡ min_depth t
least_turned t = in_order (λ u. min_depth u ≡ min_depth t) t (omega arith) refl

-- And the greatest.
greatest_turned : (t : Triangle) → max_depth (positive_order t) ≡ max_depth t
greatest_turned t = in_order (λ u. max_depth u ≡ max_depth t) t (omega arith) refl

-- The law for any triangle.
pub key_law_holds : (t : Triangle) (s : Point) → covers_sample t s ≡ true
    → (pos (min_depth t) ≤ℤ depth_value t s) × (depth_value t s ≤ℤ pos (max_depth t))
key_law_holds t s h =
    let split = and_parts (has_area t) (all_accept (positive_order t).a (positive_order t).b (positive_order t).c s) h in
    let k = key_between (positive_order t) s (positive_area t split.0) split.1 in
    (rw least_turned at k.0, rw greatest_turned at k.1)

-- A whole number between two natural numbers is at most the greater.
pub abs_at_most : (v : ℤ) (low high : ℕ) → pos low ≤ℤ v → v ≤ℤ pos high → unsigned_abs v ≤ high
abs_at_most (pos n) low high l h = omega (arith, ints)
abs_at_most (negsuc n) low high l h = absurd l.le

-- And at least the lower.
abs_at_least : (v : ℤ) (low : ℕ) → pos low ≤ℤ v → low ≤ unsigned_abs v
abs_at_least (pos n) low l = omega (arith, ints)
abs_at_least (negsuc n) low l = absurd l.le

-- So no key is above the greatest depth value.
pub no_key_above : (t : Triangle) → HasNoKeyAbove t (max_depth t)
no_key_above t offsets x y k h =
    let s = sample_position (get_or offsets k (pos 0, pos 0)) x y in
    let between = key_law_holds t s h in
    abs_at_most (depth_value t s) (min_depth t) (max_depth t) between.0 between.1

-- And none is below the least.
pub no_key_below : (t : Triangle) → HasNoKeyBelow t (min_depth t)
no_key_below t offsets x y k h =
    let s = sample_position (get_or offsets k (pos 0, pos 0)) x y in
    abs_at_least (depth_value t s) (min_depth t) (key_law_holds t s h).0
