-- The cut of an edge, and the corners of what the clip table names.
use Rattle.std.proofs.Common.{true≢false, ◌≡◌, ◌∙◌, sym, ap, subst, refl, ℕ, suc, ◌+◌, ◌*◌, ◌/◌, ◌<◌, ◌≤◌, Bool, true, false, ℤ, pos, negsuc, neg_ℤ, ◌+ℤ◌, ◌-ℤ◌, ◌*ℤ◌, ◌≤ℤ◌, ◌<ℤ◌, [], ◌∷◌, All, arith, div-add-mod'}
use Rattle.std.specs.Prelude.{int_lt, not}
use Rattle.std.proofs.lemmas.Int.{ints}
use Rattle.std.proofs.lemmas.Nat.{mod_below}
use Rattle.std.proofs.lemmas.List.Elements.{All-nil, All-cons}
use Rattle.abuf_num.specs.Division.{floor_div}
use Rattle.abuf_view.proofs.Ring.{add_mul, neg_mul}
use Rattle.abuf_view.specs.declared.eye.EyePoint.{EyePoint}
use Rattle.abuf_view.specs.declared.near_plane.EyeTriangle.{EyeTriangle}
use Rattle.abuf_view.specs.NearPlane.{clip_by, clipped, is_inside, cut}
use Rattle.abuf_view.specs.CutLaw.{IsBehind, IsFloorOf, IsCutOf}
use Rattle.abuf_view.proofs.Bounds.{cut_between}

-- ---- corners

-- A point that passes the test is at the plane or beyond it.
inside : (m : ℤ) (s : EyePoint) → true ≡ is_inside m s → m ≤ℤ s.w
inside m s h = go (int_lt s.w m) refl h where
  go : (t : Bool) → t ≡ int_lt s.w m → true ≡ not t → m ≤ℤ s.w
  go true e k = absurd (true≢false k)
  go false e k = omega (arith, ints)

-- A cut point is at the plane.
at_plane : (m : ℤ) → m ≤ℤ m
at_plane m = omega (arith, ints)

-- One part whose corners are at the plane or beyond it.
one : (m : ℤ) (t : EyeTriangle) → IsBehind m t → All (IsBehind m) (t ∷ [])
one m t h = All-cons (IsBehind m) t [] h (All-nil (IsBehind m))

-- Two such parts.
two : (m : ℤ) (t u : EyeTriangle) → IsBehind m t → IsBehind m u → All (IsBehind m) (t ∷ u ∷ [])
two m t u h k = All-cons (IsBehind m) t (u ∷ []) h (one m u k)

-- The parts of the clip table, row by row.
behind : (u v w : Bool) (m : ℤ) (a b c : EyePoint) → u ≡ is_inside m a → v ≡ is_inside m b → w ≡ is_inside m c → All (IsBehind m) (clip_by u v w m a b c)
behind true true true m a b c p q r = one m _ (inside m a p, inside m b q, inside m c r)
behind true true false m a b c p q r = two m _ _ (inside m a p, inside m b q, at_plane m) (inside m a p, at_plane m, at_plane m)
behind false true true m a b c p q r = two m _ _ (inside m b q, inside m c r, at_plane m) (inside m b q, at_plane m, at_plane m)
behind true false true m a b c p q r = two m _ _ (inside m c r, inside m a p, at_plane m) (inside m c r, at_plane m, at_plane m)
behind true false false m a b c p q r = one m _ (inside m a p, at_plane m, at_plane m)
behind false true false m a b c p q r = one m _ (inside m b q, at_plane m, at_plane m)
behind false false true m a b c p q r = one m _ (inside m c r, at_plane m, at_plane m)
behind false false false m a b c p q r = All-nil (IsBehind m)

-- The corners of all parts are at the plane or beyond it.
pub all_behind : (m : ℤ) (a b c : EyePoint) → All (IsBehind m) (clipped m a b c)
all_behind m a b c = behind (is_inside m a) (is_inside m b) (is_inside m c) m a b c refl refl refl

-- ---- the cut

-- A quotient rounded down, of natural numbers.
floor_nat : (a b : ℕ) → 0 < b → (a / b * b ≤ a) × (a < a / b * b + b)
floor_nat a b h = (omega (arith, div-add-mod' a b), omega (arith, div-add-mod' a b, mod_below a b h))

-- Of a negative number.
floor_neg : (a b q : ℕ) → q * b ≤ a → a < q * b + b → IsFloorOf (negsuc a) (pos b) (negsuc q)
floor_neg a b q f g =
    let low : negsuc q *ℤ pos b ≡ neg_ℤ (pos (suc q * b)) = neg_mul (pos (suc q)) (pos b) in
    let next : negsuc q +ℤ pos 1 ≡ neg_ℤ (pos q) = omega (arith, ints) in
    let high : (negsuc q +ℤ pos 1) *ℤ pos b ≡ neg_ℤ (pos (q * b)) = ap (λ (z : ℤ). z *ℤ pos b) next ∙ neg_mul (pos q) (pos b) in (
      subst (λ (z : ℤ). z ≤ℤ negsuc a) (sym low) (omega (arith, ints)),
      subst (λ (z : ℤ). negsuc a <ℤ z) (sym high) (omega (arith, ints)),
    )

-- Of any whole number.
floor_is : (n d : ℤ) → pos 0 <ℤ d → IsFloorOf n d (floor_div n d)
floor_is n (negsuc b) h = absurd h.lt
floor_is (pos a) (pos b) h =
    let f = floor_nat a b (omega (arith, ints, h)) in
    (omega (arith, ints, f), omega (arith, ints, f))
floor_is (negsuc a) (pos b) h =
    let f = floor_nat a b (omega (arith, ints, h)) in
    floor_neg a b (a / b) f.0 f.1

-- the same, moved by u
floor_moved : (u n d : ℤ) → pos 0 <ℤ d → IsFloorOf (u *ℤ d +ℤ n) d (u +ℤ floor_div n d)
floor_moved u n d h =
    let f = floor_is n d h in
    let z : ℤ = floor_div n d in
    let next : u +ℤ z +ℤ pos 1 ≡ u +ℤ (z +ℤ pos 1) = omega (arith, ints) in (
      rw (add_mul u z d) (omega (arith, ints, f.0)),
      rw (next, add_mul u (z +ℤ pos 1) d) (omega (arith, ints, f.1)),
    )

-- What the cut makes is the cut point.
pub is_cut : (m : ℤ) (p q : EyePoint) → m ≤ℤ p.w → q.w <ℤ m → IsCutOf m p q (cut m p q)
is_cut m p q i o =
    let span : pos 0 <ℤ (p.w -ℤ q.w) = omega (arith, ints, i, o) in
    let near : pos 0 ≤ℤ (p.w -ℤ m) = omega (arith, ints, i) in
    let order : (p.w -ℤ m) ≤ℤ (p.w -ℤ q.w) = omega (arith, ints, o) in
    record {
      x_floor = floor_moved p.x ((q.x -ℤ p.x) *ℤ (p.w -ℤ m)) (p.w -ℤ q.w) span;
      y_floor = floor_moved p.y ((q.y -ℤ p.y) *ℤ (p.w -ℤ m)) (p.w -ℤ q.w) span;
      x_between = cut_between p.x q.x (p.w -ℤ m) (p.w -ℤ q.w) span near order;
      y_between = cut_between p.y q.y (p.w -ℤ m) (p.w -ℤ q.w) span near order;
      at_plane = refl;
    }
