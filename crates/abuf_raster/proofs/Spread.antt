-- How far the depth value changes within a pixel.
use Rattle.std.proofs.Common.{◌≡◌, ℕ, ◌+◌, ◌*◌, ◌/◌, ◌<◌, ◌≤◌, true, length, ℤ, pos, negsuc, ◌+ℤ◌, ◌-ℤ◌, ◌*ℤ◌, ◌<ℤ◌, ◌≤ℤ◌, unsigned_abs, get_or, slice_index_or, arith, ◌∙◌, subst}
use Rattle.std.proofs.lemmas.Int.{ints}
use Rattle.std.proofs.lemmas.Bool.{and_parts}
use Rattle.std.proofs.lemmas.Nat.{le-div}
use Rattle.std.proofs.Math.Nat.{div-mul-le_self}
use Rattle.abuf_num.specs.Division.{floor_div}
use Rattle.abuf_raster.specs.declared.point.Point.{Point}
use Rattle.abuf_raster.specs.declared.pattern.Pattern.{Pattern}
use Rattle.abuf_raster.specs.Edge.{edge_function}
use Rattle.abuf_raster.specs.Triangle.{Triangle, has_area, positive_order}
use Rattle.abuf_raster.specs.Samples.{offsets_of, reach_of, sample_position, pixel_centre}
use Rattle.abuf_raster.specs.Depth.{weighted_depth, depth_of, spread, min_depth, max_depth}
use Rattle.abuf_raster.specs.Coverage.{covers_sample, all_accept}
use Rattle.abuf_raster.proofs.Acceptance.{positive_area}
use Rattle.abuf_raster.proofs.Bounds.{abs-add, abs-mul}
use Rattle.abuf_raster.proofs.Ring.{mul_add, add_mul, neg_mul, mul_neg}
use Rattle.abuf_raster.proofs.Linear.{E_sum}
use Rattle.abuf_raster.proofs.Means.{key_between, abs_at_most}
use Rattle.abuf_raster.proofs.Changes.{offset_near, reach_small, sixteenth}

-- a sample is within the pattern's reach of the centre
pub sample_reach : (p : Pattern) (k x y : ℕ) → k < length (offsets_of p) → (let s : Point = sample_position (slice_index_or (offsets_of p) k (pos 0, pos 0)) x y in let c : Point = pixel_centre x y in
    (unsigned_abs (s.x -ℤ c.x) ≤ 16 * reach_of p) × (unsigned_abs (s.y -ℤ c.y) ≤ 16 * reach_of p))
sample_reach p k x y l =
    let o : ℤ × ℤ = slice_index_or (offsets_of p) k (pos 0, pos 0) in
    let n = offset_near p k l in
    (off (256 * x + 128) (pos 16 *ℤ o.0) (16 * reach_of p) (sixteenth o.0 (reach_of p) n.0), off (256 * y + 128) (pos 16 *ℤ o.1) (16 * reach_of p) (sixteenth o.1 (reach_of p) n.1))
  where
    off : (c : ℕ) (z : ℤ) (m : ℕ) → unsigned_abs z ≤ m → unsigned_abs ((pos c +ℤ z) -ℤ pos c) ≤ m
    off c z m h = omega (arith, ints)

-- ---- how an edge function changes
-- The terms of an edge function at one position and at another.
step : (p q ax ay sx sy mx my : ℤ) → p *ℤ (sy -ℤ ay) -ℤ q *ℤ (sx -ℤ ax) ≡ (p *ℤ (my -ℤ ay) -ℤ q *ℤ (mx -ℤ ax)) +ℤ (p *ℤ (sy -ℤ my) -ℤ q *ℤ (sx -ℤ mx))
step p q ax ay sx sy mx my = simp (mul_add, add_mul, neg_mul, mul_neg) (omega (arith, ints))

-- An edge function changes by at most 128 times the extent of the edge.
edge_change : (a b s m : Point) → unsigned_abs (s.x -ℤ m.x) ≤ 128 → unsigned_abs (s.y -ℤ m.y) ≤ 128
    → unsigned_abs (edge_function a b s -ℤ edge_function a b m) ≤ 128 * (unsigned_abs (b.x -ℤ a.x) + unsigned_abs (b.y -ℤ a.y))
edge_change a b s m hx hy =
    let p : ℤ = b.x -ℤ a.x in
    let q : ℤ = b.y -ℤ a.y in
    let d : ℤ = p *ℤ (s.y -ℤ m.y) -ℤ q *ℤ (s.x -ℤ m.x) in
    let e : edge_function a b s ≡ edge_function a b m +ℤ d = step p q a.x a.y s.x s.y m.x m.y in
    let u = abs-mul p (s.y -ℤ m.y) (unsigned_abs p) 128 (omega arith) hy in
    let v = abs-mul q (s.x -ℤ m.x) (unsigned_abs q) 128 (omega arith) hx in
    omega (arith, ints)

-- ---- how the weighted depth changes
-- A weighted sum by the area and two of the weights.
two_edges : (e f g area qa qb qc : ℤ) → e +ℤ f +ℤ g ≡ area → e *ℤ qa +ℤ f *ℤ qb +ℤ g *ℤ qc ≡ area *ℤ qa +ℤ (f *ℤ (qb -ℤ qa) +ℤ g *ℤ (qc -ℤ qa))
two_edges e f g area qa qb qc h = rw (← h) (simp (mul_add, add_mul, neg_mul, mul_neg) (omega (arith, ints)))

-- The difference of two such sums.
changes : (f g f' g' u v : ℤ) → (f *ℤ u +ℤ g *ℤ v) -ℤ (f' *ℤ u +ℤ g' *ℤ v) ≡ (f -ℤ f') *ℤ u +ℤ (g -ℤ g') *ℤ v
changes f g f' g' u v = simp (mul_add, add_mul, neg_mul, mul_neg) (omega (arith, ints))

-- The weighted depth changes by at most the spread.
pub depth_change : (t : Triangle) (s m : Point) → unsigned_abs (s.x -ℤ m.x) ≤ 128 → unsigned_abs (s.y -ℤ m.y) ≤ 128
    → unsigned_abs (weighted_depth t s -ℤ weighted_depth t m) ≤ spread t
depth_change t s m hx hy =
    let u : ℤ = pos t.qb -ℤ pos t.qa in
    let v : ℤ = pos t.qc -ℤ pos t.qa in
    let f : ℤ = edge_function t.c t.a s in
    let g : ℤ = edge_function t.a t.b s in
    let f' : ℤ = edge_function t.c t.a m in
    let g' : ℤ = edge_function t.a t.b m in
    let area : ℤ = edge_function t.a t.b t.c in
    let ws : weighted_depth t s ≡ area *ℤ pos t.qa +ℤ (f *ℤ u +ℤ g *ℤ v) = two_edges (edge_function t.b t.c s) f g area (pos t.qa) (pos t.qb) (pos t.qc) (E_sum t.a t.b t.c s) in
    let wm : weighted_depth t m ≡ area *ℤ pos t.qa +ℤ (f' *ℤ u +ℤ g' *ℤ v) = two_edges (edge_function t.b t.c m) f' g' area (pos t.qa) (pos t.qb) (pos t.qc) (E_sum t.a t.b t.c m) in
    let same : weighted_depth t s -ℤ weighted_depth t m ≡ (f -ℤ f') *ℤ u +ℤ (g -ℤ g') *ℤ v = fewer (weighted_depth t s) (weighted_depth t m) (area *ℤ pos t.qa) (f *ℤ u +ℤ g *ℤ v) (f' *ℤ u +ℤ g' *ℤ v) ws wm ∙ changes f g f' g' u v in
    let mf = 128 * (unsigned_abs (t.a.x -ℤ t.c.x) + unsigned_abs (t.a.y -ℤ t.c.y)) in
    let mg = 128 * (unsigned_abs (t.b.x -ℤ t.a.x) + unsigned_abs (t.b.y -ℤ t.a.y)) in
    rw same (abs-add ((f -ℤ f') *ℤ u) ((g -ℤ g') *ℤ v) (mf * unsigned_abs u) (mg * unsigned_abs v)
    (abs-mul (f -ℤ f') u mf (unsigned_abs u) (edge_change t.c t.a s m hx hy) (omega arith))
    (abs-mul (g -ℤ g') v mg (unsigned_abs v) (edge_change t.a t.b s m hx hy) (omega arith)))
  where
    fewer : (p q z x y : ℤ) → p ≡ z +ℤ x → q ≡ z +ℤ y → p -ℤ q ≡ x -ℤ y
    fewer p q z x y h k = omega (arith, ints)

-- ---- division keeps the order
-- Of natural numbers.
pub div_keeps : (m n a : ℕ) → 0 < a → m ≤ n → m / a ≤ n / a
div_keeps m n a h l = le-div (m / a) n a h (omega (arith, div-mul-le_self m a))

-- Of whole numbers.
pub floor_keeps : (v w m : ℤ) → pos 0 <ℤ m → v ≤ℤ w → floor_div v m ≤ℤ floor_div w m
floor_keeps (pos x) (pos y) m h l = let d = div_keeps x y (unsigned_abs m) (omega (arith, ints)) (omega (arith, ints)) in omega (arith, ints)
floor_keeps (pos x) (negsuc y) m h l = absurd (omega (arith, ints))
floor_keeps (negsuc x) (pos y) m h l = omega (arith, ints)
floor_keeps (negsuc x) (negsuc y) m h l = let d = div_keeps y x (unsigned_abs m) (omega (arith, ints)) (omega (arith, ints)) in omega (arith, ints)

-- what is known of the key at a covered sample
pub record KeyAt (u : Triangle) (s m : Point) : Type 0 where
  pub positive : pos 0 <ℤ edge_function u.a u.b u.c
  pub value : floor_div (weighted_depth u s) (edge_function u.a u.b u.c) ≡ pos (unsigned_abs (depth_of u s))
  pub small : unsigned_abs (depth_of u s) ≤ 16777215
  pub near : unsigned_abs (weighted_depth u s -ℤ weighted_depth u m) ≤ spread u

-- And it is so at each sample that is covered.
pub key_at : (t : Triangle) (p : Pattern) (k x y : ℕ) → k < length (offsets_of p) → max_depth (positive_order t) ≤ 16777215
    → covers_sample t (sample_position (get_or (offsets_of p) k (pos 0, pos 0)) x y) ≡ true
    → KeyAt (positive_order t) (sample_position (get_or (offsets_of p) k (pos 0, pos 0)) x y) (pixel_centre x y)
key_at t p k x y l g h =
    let u : Triangle = positive_order t in
    let s : Point = sample_position (get_or (offsets_of p) k (pos 0, pos 0)) x y in
    let split = and_parts (has_area t) (all_accept u.a u.b u.c s) h in
    let b = key_between u s (positive_area t split.0) split.1 in
    let n = sample_reach p k x y l in
    record {
      positive = positive_area t split.0;
      value = natural (depth_of u s) (min_depth u) b.0;
      small = omega (arith, abs_at_most (depth_of u s) (min_depth u) (max_depth u) b.0 b.1, g);
      near = depth_change u s (pixel_centre x y) (omega (arith, n.0, reach_small p)) (omega (arith, n.1, reach_small p));
    }
  where
    natural : (z : ℤ) (n : ℕ) → pos n ≤ℤ z → z ≡ pos (unsigned_abs z)
    natural z n q = omega (arith, ints)

-- quotients of what differs by at most the spread
pub low_key : (key : ℕ) (a b m sum w area : ℤ) (r : ℕ) → a ≡ w → b ≡ pos r → m ≡ area → pos 0 <ℤ area → unsigned_abs (sum -ℤ w) ≤ r → floor_div sum area ≡ pos key → floor_div (a -ℤ b) m ≤ℤ pos key
low_key key a b m sum w area r ea eb em h n is =
    let l : (w -ℤ pos r) ≤ℤ sum = omega (arith, ints) in
    rw (ea, eb, em) (subst (λ (z : ℤ). floor_div (w -ℤ pos r) area ≤ℤ z) is (floor_keeps (w -ℤ pos r) sum area h l))

-- And the quotient of the greatest sum is not below the key.
pub high_key : (key : ℕ) (a b m sum w area : ℤ) (r : ℕ) → a ≡ w → b ≡ pos r → m ≡ area → pos 0 <ℤ area → unsigned_abs (sum -ℤ w) ≤ r → floor_div sum area ≡ pos key → pos key ≤ℤ floor_div (a +ℤ b) m
high_key key a b m sum w area r ea eb em h n is =
    let l : sum ≤ℤ (w +ℤ pos r) = omega (arith, ints) in
    rw (ea, eb, em) (subst (λ (z : ℤ). z ≤ℤ floor_div (w +ℤ pos r) area) is (floor_keeps sum (w +ℤ pos r) area h l))
