-- The weighted depth as a sum of a start and of two slopes, modulo 2^64.
use Rattle.std.proofs.Common.{◌≡◌, ℕ, ◌^◌, ◌<◌, max, ℤ, pos, neg_ℤ, ◌+ℤ◌, ◌-ℤ◌, ◌*ℤ◌, unsigned_abs, to_z, of_z, w64, arith, ap, subst, ◌∙◌}
use Rattle.std.specs.Int.{int_wrap}
use Rattle.std.proofs.lemmas.Int.{ints, int_wrap-add_left, int_wrap-add_same}
use Rattle.abuf_raster.specs.declared.point.Point.{Point}
use Rattle.abuf_raster.specs.Edge.{edge_function}
use Rattle.abuf_raster.specs.Triangle.{Triangle}
use Rattle.abuf_raster.specs.Depth.{weighted_depth}
use Rattle.abuf_raster.specs.Slopes.{slope, slope_across, slope_down}
use Rattle.abuf_raster.specs.declared.plane.Coefficients.{Coefficients}
use Rattle.abuf_raster.specs.Plane.{IsPlane}
use Rattle.abuf_raster.proofs.Ring.{mul_add, add_mul, neg_mul, E_end, E_back}
use Rattle.abuf_raster.proofs.Linear.{E_from, E_sum}
use Rattle.abuf_raster.proofs.Bounds.{back64}
use Rattle.abuf_raster.proofs.Beside.{turned as exchanged}

-- an edge value that changed, weighted
one_changed : (e p r dx dy q : ℤ) → (e +ℤ (p *ℤ dy -ℤ r *ℤ dx)) *ℤ q ≡ e *ℤ q +ℤ ((p *ℤ q) *ℤ dy -ℤ (r *ℤ q) *ℤ dx)
one_changed e p r dx dy q =
    let u = add_mul e (p *ℤ dy -ℤ r *ℤ dx) q in
    let v = add_mul (p *ℤ dy) (neg_ℤ (r *ℤ dx)) q in
    let w = neg_mul (r *ℤ dx) q in
    omega (arith, ints, u, v, w, exchanged p dy q, exchanged r dx q)

-- three of them
sum_of_three : (u v w d : ℤ) → (u +ℤ v +ℤ w) *ℤ d ≡ u *ℤ d +ℤ v *ℤ d +ℤ w *ℤ d
sum_of_three u v w d = let h = add_mul (u +ℤ v) w d in let k = add_mul u v d in omega (arith, ints, h, k)

-- A weighted difference and its reverse.
turned : (x y q d : ℤ) → ((x -ℤ y) *ℤ q) *ℤ d ≡ neg_ℤ (((y -ℤ x) *ℤ q) *ℤ d)
turned x y q d =
    let e : x -ℤ y ≡ neg_ℤ (y -ℤ x) = omega (arith, ints) in
    ap (λ (z : ℤ). (z *ℤ q) *ℤ d) e ∙ (ap (λ (z : ℤ). z *ℤ d) (neg_mul (y -ℤ x) q) ∙ neg_mul ((y -ℤ x) *ℤ q) d)

-- the weighted depth at s, from that at c
pub depth_from : (t : Triangle) (c s : Point) → weighted_depth t s ≡ weighted_depth t c +ℤ (slope_across t *ℤ (s.x -ℤ c.x) +ℤ slope_down t *ℤ (s.y -ℤ c.y))
depth_from t c s =
    let dx : ℤ = s.x -ℤ c.x in
    let dy : ℤ = s.y -ℤ c.y in
    let qa : ℤ = pos t.qa in
    let qb : ℤ = pos t.qb in
    let qc : ℤ = pos t.qc in
    let bc = ap (λ (z : ℤ). z *ℤ qa) (E_from t.b t.c c s) ∙ one_changed (edge_function t.b t.c c) (t.c.x -ℤ t.b.x) (t.c.y -ℤ t.b.y) dx dy qa in
    let ca = ap (λ (z : ℤ). z *ℤ qb) (E_from t.c t.a c s) ∙ one_changed (edge_function t.c t.a c) (t.a.x -ℤ t.c.x) (t.a.y -ℤ t.c.y) dx dy qb in
    let ab = ap (λ (z : ℤ). z *ℤ qc) (E_from t.a t.b c s) ∙ one_changed (edge_function t.a t.b c) (t.b.x -ℤ t.a.x) (t.b.y -ℤ t.a.y) dx dy qc in
    let across = sum_of_three ((t.b.y -ℤ t.c.y) *ℤ qa) ((t.c.y -ℤ t.a.y) *ℤ qb) ((t.a.y -ℤ t.b.y) *ℤ qc) dx in
    let down = sum_of_three ((t.c.x -ℤ t.b.x) *ℤ qa) ((t.b.x -ℤ t.a.x) *ℤ qc) ((t.a.x -ℤ t.c.x) *ℤ qb) dy in
    six
    (edge_function t.b t.c s *ℤ qa) (edge_function t.c t.a s *ℤ qb) (edge_function t.a t.b s *ℤ qc)
    (edge_function t.b t.c c *ℤ qa) (edge_function t.c t.a c *ℤ qb) (edge_function t.a t.b c *ℤ qc)
    (((t.c.x -ℤ t.b.x) *ℤ qa) *ℤ dy) (((t.a.x -ℤ t.c.x) *ℤ qb) *ℤ dy) (((t.b.x -ℤ t.a.x) *ℤ qc) *ℤ dy)
    (((t.c.y -ℤ t.b.y) *ℤ qa) *ℤ dx) (((t.a.y -ℤ t.c.y) *ℤ qb) *ℤ dx) (((t.b.y -ℤ t.a.y) *ℤ qc) *ℤ dx)
    (((t.b.y -ℤ t.c.y) *ℤ qa) *ℤ dx) (((t.c.y -ℤ t.a.y) *ℤ qb) *ℤ dx) (((t.a.y -ℤ t.b.y) *ℤ qc) *ℤ dx)
    (slope_across t *ℤ dx) (slope_down t *ℤ dy)
    bc ca ab across down
    (turned t.b.y t.c.y qa dx) (turned t.c.y t.a.y qb dx) (turned t.a.y t.b.y qc dx)
  where
    six : (s1 s2 s3 c1 c2 c3 y1 y2 y3 x1 x2 x3 n1 n2 n3 u v : ℤ) → s1 ≡ c1 +ℤ (y1 -ℤ x1) → s2 ≡ c2 +ℤ (y2 -ℤ x2) → s3 ≡ c3 +ℤ (y3 -ℤ x3)
        → u ≡ n1 +ℤ n2 +ℤ n3 → v ≡ y1 +ℤ y3 +ℤ y2 → n1 ≡ neg_ℤ x1 → n2 ≡ neg_ℤ x2 → n3 ≡ neg_ℤ x3
        → s1 +ℤ s2 +ℤ s3 ≡ (c1 +ℤ c2 +ℤ c3) +ℤ (u +ℤ v)
    six s1 s2 s3 c1 c2 c3 y1 y2 y3 x1 x2 x3 n1 n2 n3 u v a b c d e f g h = omega (arith, ints)

-- at its first corner it is that corner's depth value, as often as the area has it
at_corner : (t : Triangle) → weighted_depth t t.a ≡ edge_function t.a t.b t.c *ℤ pos t.qa
at_corner t =
    let ca : edge_function t.c t.a t.a ≡ pos 0 = E_end t.c t.a in
    let ab : edge_function t.a t.b t.a ≡ pos 0 = E_back t.a t.b in
    let sum = E_sum t.a t.b t.c t.a in
    let bc : edge_function t.b t.c t.a ≡ edge_function t.a t.b t.c = alone (edge_function t.b t.c t.a) (edge_function t.c t.a t.a) (edge_function t.a t.b t.a) (edge_function t.a t.b t.c) sum ca ab in
    nothing_more (edge_function t.b t.c t.a *ℤ pos t.qa) (edge_function t.c t.a t.a *ℤ pos t.qb) (edge_function t.a t.b t.a *ℤ pos t.qc) (edge_function t.a t.b t.c *ℤ pos t.qa) t.qb t.qc (ap (λ (z : ℤ). z *ℤ pos t.qa) bc) (ap (λ (z : ℤ). z *ℤ pos t.qb) ca) (ap (λ (z : ℤ). z *ℤ pos t.qc) ab)
  where
    alone : (x y z r : ℤ) → x +ℤ y +ℤ z ≡ r → y ≡ pos 0 → z ≡ pos 0 → x ≡ r
    alone x y z r h k l = omega (arith, ints)

    nothing_more : (x y z r : ℤ) (m n : ℕ) → x ≡ r → y ≡ pos 0 *ℤ pos m → z ≡ pos 0 *ℤ pos n → x +ℤ y +ℤ z ≡ r
    nothing_more x y z r m n h k l = omega (arith, ints)

-- so it is a sum from the origin on
from_origin : (t : Triangle) (s : Point)
    → (((pos 0 +ℤ edge_function t.a t.b t.c *ℤ pos t.qa) +ℤ slope_across t *ℤ neg_ℤ t.a.x) +ℤ slope_down t *ℤ neg_ℤ t.a.y) +ℤ slope_across t *ℤ s.x +ℤ slope_down t *ℤ s.y ≡ weighted_depth t s
from_origin t s =
    let h = depth_from t t.a s in
    let k = at_corner t in
    let u = mul_add (slope_across t) s.x (neg_ℤ t.a.x) in
    let v = mul_add (slope_down t) s.y (neg_ℤ t.a.y) in
    in_order (weighted_depth t s) (weighted_depth t t.a) (edge_function t.a t.b t.c *ℤ pos t.qa)
    (slope_across t *ℤ s.x) (slope_across t *ℤ neg_ℤ t.a.x) (slope_down t *ℤ s.y) (slope_down t *ℤ neg_ℤ t.a.y)
    (slope_across t *ℤ (s.x -ℤ t.a.x)) (slope_down t *ℤ (s.y -ℤ t.a.y)) h k u v
  where
    in_order : (w a r u1 u2 v1 v2 u v : ℤ) → w ≡ a +ℤ (u +ℤ v) → a ≡ r → u ≡ u1 +ℤ u2 → v ≡ v1 +ℤ v2 → (((pos 0 +ℤ r) +ℤ u2) +ℤ v2) +ℤ u1 +ℤ v1 ≡ w
    in_order w a r u1 u2 v1 v2 u v h k f g = omega (arith, ints)

-- what was wrapped before may be wrapped after
wrapped_before : (z a b : ℤ) → int_wrap w64 ((int_wrap w64 z +ℤ a) +ℤ b) ≡ int_wrap w64 ((z +ℤ a) +ℤ b)
wrapped_before z a b = int_wrap-add_same w64 (int_wrap w64 z +ℤ a) (z +ℤ a) b (int_wrap-add_left w64 z a)

-- The sum that the code makes is the weighted depth, modulo 2^64.
pub sum_is : (t : Triangle) (across down start first second : ℤ) → across ≡ slope_across t → down ≡ slope_down t
    → first ≡ int_wrap w64 (pos 0 +ℤ edge_function t.a t.b t.c *ℤ pos t.qa)
    → second ≡ int_wrap w64 (first +ℤ across *ℤ neg_ℤ t.a.x)
    → start ≡ int_wrap w64 (second +ℤ down *ℤ neg_ℤ t.a.y)
    → (s : Point) → int_wrap w64 ((start +ℤ across *ℤ s.x) +ℤ down *ℤ s.y) ≡ int_wrap w64 (weighted_depth t s)
sum_is t across down start first second ea ed ef es et s =
    let corner : ℤ = pos 0 +ℤ edge_function t.a t.b t.c *ℤ pos t.qa in
    let side : ℤ = corner +ℤ across *ℤ neg_ℤ t.a.x in
    let origin : ℤ = side +ℤ down *ℤ neg_ℤ t.a.y in
    let two : start ≡ int_wrap w64 origin =
    et
    ∙ (ap (λ (z : ℤ). int_wrap w64 (z +ℤ down *ℤ neg_ℤ t.a.y)) (es ∙ (ap (λ (z : ℤ). int_wrap w64 (z +ℤ across *ℤ neg_ℤ t.a.x)) ef ∙ int_wrap-add_left w64 corner (across *ℤ neg_ℤ t.a.x)))
    ∙ int_wrap-add_left w64 side (down *ℤ neg_ℤ t.a.y)) in
    ap (λ (z : ℤ). int_wrap w64 ((z +ℤ across *ℤ s.x) +ℤ down *ℤ s.y)) two
    ∙ (wrapped_before origin (across *ℤ s.x) (down *ℤ s.y)
    ∙ ap (int_wrap w64) ((λ i. (((pos 0 +ℤ edge_function t.a t.b t.c *ℤ pos t.qa) +ℤ ea i *ℤ neg_ℤ t.a.x) +ℤ ed i *ℤ neg_ℤ t.a.y) +ℤ ea i *ℤ s.x +ℤ ed i *ℤ s.y) ∙ from_origin t s))

-- The plane of a triangle is that of an equal one.
pub move : {p : Coefficients} (t u : Triangle) → t ≡ u → IsPlane t p → IsPlane u p
move {p} t u e h = subst (λ (v : Triangle). IsPlane v p) e h

-- a wrapped sum, read at numbers that fit
pub more_is : (r z f d y e x : ℤ) → r ≡ int_wrap w64 (to_z w64 (of_z w64 z) +ℤ to_z w64 (of_z w64 f) *ℤ to_z w64 (of_z w64 d))
    → to_z w64 (of_z w64 z) ≡ y → to_z w64 (of_z w64 f) ≡ e → to_z w64 (of_z w64 d) ≡ x → r ≡ int_wrap w64 (y +ℤ e *ℤ x)
more_is r z f d y e x h hz hf hd = h ∙ (λ i. int_wrap w64 (hz i +ℤ hf i *ℤ hd i))

-- a slope, read at coordinates that fit
pub slope_is : (r a b c : ℤ) (qa qb qc : ℕ) → r ≡ slope (to_z w64 (of_z w64 a)) (to_z w64 (of_z w64 b)) (to_z w64 (of_z w64 c)) qa qb qc
    → unsigned_abs a < 2 ^ 45 → unsigned_abs b < 2 ^ 45 → unsigned_abs c < 2 ^ 45 → r ≡ slope a b c qa qb qc
slope_is r a b c qa qb qc h ha hb hc = h ∙ (λ i. slope (back64 a (omega arith) i) (back64 b (omega arith) i) (back64 c (omega arith) i) qa qb qc)

-- the greatest of three, taken in turn
pub max_is : (a b c m n : ℕ) → m ≡ max a b → n ≡ max m c → n ≡ max a (max b c)
max_is a b c m n h k = omega arith
