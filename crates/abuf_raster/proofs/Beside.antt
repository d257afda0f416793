-- A sample that lies beside a triangle isn't covered.
use Rattle.std.proofs.Common.{◌≡◌, ℕ, ◌+◌, ◌*◌, ◌≤◌, false, ℤ, pos, negsuc, neg_ℤ, ◌+ℤ◌, ◌-ℤ◌, ◌*ℤ◌, ◌<ℤ◌, ◌≤ℤ◌, unsigned_abs, arith, ap, refl, ◌∙◌}
use Rattle.std.proofs.lemmas.Int.{ints}
use Rattle.std.proofs.lemmas.Nat.{mul-le}
use Rattle.std.proofs.Math.IntN.{*ℤ_comm}
use borrow.Author.Differences.{up, down, product_is}
use Rattle.abuf_raster.specs.declared.point.Point.{Point}
use Rattle.abuf_raster.specs.Edge.{edge_function}
use Rattle.abuf_raster.specs.Triangle.{Triangle}
use Rattle.abuf_raster.specs.BoundingBox.{IsBefore, IsBehind}
use Rattle.abuf_raster.specs.Coverage.{all_accept}
use Rattle.abuf_raster.proofs.Ring.{mul_add, add_mul, neg_mul, mul_neg}
use Rattle.abuf_raster.proofs.Linear.{E_sum}
use Rattle.abuf_raster.proofs.Means.{weights}
use Rattle.abuf_raster.proofs.Changes.{not_true}

-- ---- products of three

-- Three factors, the outer two exchanged.
pub triple : (x y z : ℤ) → (x *ℤ y) *ℤ z ≡ (z *ℤ y) *ℤ x
triple x y z = omega (
  arith,
  ints,
  ap (λ (k : ℕ). k * up z) (product_is x y).0,
  ap (λ (k : ℕ). k * down z) (product_is x y).0,
  ap (λ (k : ℕ). k * up z) (product_is x y).1,
  ap (λ (k : ℕ). k * down z) (product_is x y).1,
  ap (λ (k : ℕ). k * up x) (product_is z y).0,
  ap (λ (k : ℕ). k * down x) (product_is z y).0,
  ap (λ (k : ℕ). k * up x) (product_is z y).1,
  ap (λ (k : ℕ). k * down x) (product_is z y).1,
)

-- Three factors, the last two exchanged.
pub turned : (x y z : ℤ) → (x *ℤ y) *ℤ z ≡ (x *ℤ z) *ℤ y
turned x y z = ap (λ (w : ℤ). w *ℤ z) (*ℤ_comm x y) ∙ (triple y x z ∙ ap (λ (w : ℤ). w *ℤ y) (*ℤ_comm z x))

-- ---- the three edge functions weigh the corners to the sample

-- An edge function of coordinates from a sample, as a cross product.
cross : (b v c w : ℤ) → (c -ℤ b) *ℤ neg_ℤ v -ℤ (w -ℤ v) *ℤ neg_ℤ b ≡ b *ℤ w -ℤ c *ℤ v
cross b v c w = simp (add_mul, mul_add, neg_mul, mul_neg) (omega (arith, ints, *ℤ_comm v b, *ℤ_comm w b))

-- An edge function at a sample is the cross product of the ways to its ends.
E_cross : (b c s : Point) → edge_function b c s ≡ (b.x -ℤ s.x) *ℤ (c.y -ℤ s.y) -ℤ (c.x -ℤ s.x) *ℤ (b.y -ℤ s.y)
E_cross b c s =
    let p : c.x -ℤ b.x ≡ (c.x -ℤ s.x) -ℤ (b.x -ℤ s.x) = omega (arith, ints) in
    let q : s.y -ℤ b.y ≡ neg_ℤ (b.y -ℤ s.y) = omega (arith, ints) in
    let u : c.y -ℤ b.y ≡ (c.y -ℤ s.y) -ℤ (b.y -ℤ s.y) = omega (arith, ints) in
    let v : s.x -ℤ b.x ≡ neg_ℤ (b.x -ℤ s.x) = omega (arith, ints) in
    (λ i. p i *ℤ q i -ℤ u i *ℤ v i) ∙ cross (b.x -ℤ s.x) (b.y -ℤ s.y) (c.x -ℤ s.x) (c.y -ℤ s.y)

-- A difference times a number.
sub_mul : (x y z : ℤ) → (x -ℤ y) *ℤ z ≡ x *ℤ z -ℤ y *ℤ z
sub_mul x y z = simp (add_mul, neg_mul) refl

-- Three vectors, each weighted by the cross product of the others, are 0 in sum: the first coordinate.
none_across : (a v b w c z : ℤ) → (b *ℤ z -ℤ c *ℤ w) *ℤ a +ℤ (c *ℤ v -ℤ a *ℤ z) *ℤ b +ℤ (a *ℤ w -ℤ b *ℤ v) *ℤ c ≡ pos 0
none_across a v b w c z =
    let p = sub_mul (b *ℤ z) (c *ℤ w) a in
    let q = sub_mul (c *ℤ v) (a *ℤ z) b in
    let r = sub_mul (a *ℤ w) (b *ℤ v) c in
    let i = triple b z a in
    let j = triple c w a in
    let k = triple c v b in
    omega (arith, ints, p, q, r, i, j, k)

-- And the second.
none_down : (a v b w c z : ℤ) → (b *ℤ z -ℤ c *ℤ w) *ℤ v +ℤ (c *ℤ v -ℤ a *ℤ z) *ℤ w +ℤ (a *ℤ w -ℤ b *ℤ v) *ℤ z ≡ pos 0
none_down a v b w c z =
    let p = sub_mul (b *ℤ z) (c *ℤ w) v in
    let q = sub_mul (c *ℤ v) (a *ℤ z) w in
    let r = sub_mul (a *ℤ w) (b *ℤ v) z in
    let i = turned b z v in
    let j = turned c w v in
    let k = turned a z w in
    omega (arith, ints, p, q, r, i, j, k)

-- The edge functions at a sample weigh a coordinate of the corners to that of the sample.
abbrev pub Weighs : (Point → ℤ) → Type 0
Weighs f = (a b c s : Point) → edge_function b c s *ℤ (f a -ℤ f s) +ℤ edge_function c a s *ℤ (f b -ℤ f s) +ℤ edge_function a b s *ℤ (f c -ℤ f s) ≡ pos 0

-- They do so with the x.
pub weighs_x : Weighs (λ p. p.x)
weighs_x a b c s =
    let p = E_cross b c s in
    let q = E_cross c a s in
    let r = E_cross a b s in
    (λ i. p i *ℤ (a.x -ℤ s.x) +ℤ q i *ℤ (b.x -ℤ s.x) +ℤ r i *ℤ (c.x -ℤ s.x)) ∙ none_across (a.x -ℤ s.x) (a.y -ℤ s.y) (b.x -ℤ s.x) (b.y -ℤ s.y) (c.x -ℤ s.x) (c.y -ℤ s.y)

-- And the y.
pub weighs_y : Weighs (λ p. p.y)
weighs_y a b c s =
    let p = E_cross b c s in
    let q = E_cross c a s in
    let r = E_cross a b s in
    (λ i. p i *ℤ (a.y -ℤ s.y) +ℤ q i *ℤ (b.y -ℤ s.y) +ℤ r i *ℤ (c.y -ℤ s.y)) ∙ none_down (a.x -ℤ s.x) (a.y -ℤ s.y) (b.x -ℤ s.x) (b.y -ℤ s.y) (c.x -ℤ s.x) (c.y -ℤ s.y)

-- The same of a coordinate that runs the other way.
pub weighs_back : (f : Point → ℤ) → Weighs f → Weighs (λ p. neg_ℤ (f p))
weighs_back f weighs a b c s = omega (arith, ints, weighs a b c s, back (edge_function b c s) (f a) (f s), back (edge_function c a s) (f b) (f s), back (edge_function a b s) (f c) (f s)) where
  back : (e u v : ℤ) → e *ℤ (neg_ℤ u -ℤ neg_ℤ v) ≡ neg_ℤ (e *ℤ (u -ℤ v))
  back e u v = simp (mul_add, mul_neg) (omega (arith, ints))

-- ---- so not all three are on one side of it

-- Weights that are not negative cannot weigh three numbers above 0 to 0.
some_side : (e f g u v w : ℤ) → pos 0 ≤ℤ e → pos 0 ≤ℤ f → pos 0 ≤ℤ g → pos 0 <ℤ (e +ℤ f +ℤ g) → pos 0 <ℤ u → pos 0 <ℤ v → pos 0 <ℤ w → e *ℤ u +ℤ f *ℤ v +ℤ g *ℤ w ≡ pos 0 → ⊥
some_side (negsuc e) f g u v w he hf hg s hu hv hw z = absurd he.le
some_side (pos e) (negsuc f) g u v w he hf hg s hu hv hw z = absurd hf.le
some_side (pos e) (pos f) (negsuc g) u v w he hf hg s hu hv hw z = absurd hg.le
some_side (pos e) (pos f) (pos g) (negsuc u) v w he hf hg s hu hv hw z = absurd hu.lt
some_side (pos e) (pos f) (pos g) (pos u) (negsuc v) w he hf hg s hu hv hw z = absurd hv.lt
some_side (pos e) (pos f) (pos g) (pos u) (pos v) (negsuc w) he hf hg s hu hv hw z = absurd hw.lt
some_side (pos e) (pos f) (pos g) (pos u) (pos v) (pos w) he hf hg s hu hv hw z =
    let p = mul-le e 1 e u (omega arith) (omega (arith, ints)) in
    let q = mul-le f 1 f v (omega arith) (omega (arith, ints)) in
    let r = mul-le g 1 g w (omega arith) (omega (arith, ints)) in
    omega (arith, ints)

-- Where a sample has less of a coordinate than each corner, the edges don't all accept it.
pub beside : (f : Point → ℤ) → Weighs f → (t : Triangle) (s : Point) → pos 0 <ℤ edge_function t.a t.b t.c → f s <ℤ f t.a → f s <ℤ f t.b → f s <ℤ f t.c → all_accept t.a t.b t.c s ≡ false
beside f weighs t s positive ha hb hc = not_true _ (λ h.
    let e = weights t s h in
    some_side _ _ _ (f t.a -ℤ f s) (f t.b -ℤ f s) (f t.c -ℤ f s) e.0 e.1 e.2 (rw (E_sum t.a t.b t.c s) positive) (omega (arith, ints)) (omega (arith, ints)) (omega (arith, ints)) (weighs t.a t.b t.c s))

-- ---- pixels beside

-- A sample of a pixel that lies before a coordinate lies before it.
pub before_place : (i m : ℕ) (o u : ℤ) → IsBefore i (16 * m) u → unsigned_abs o ≤ 16 * m → (pos (256 * i + 128) +ℤ o) <ℤ u
before_place i m o u h n = omega (arith, ints)

-- And of one that lies after it, after it.
pub behind_place : (i m : ℕ) (o u : ℤ) → IsBehind i (16 * m) u → unsigned_abs o ≤ 16 * m → u <ℤ (pos (256 * i + 128) +ℤ o)
behind_place i m o u h n = omega (arith, ints)
