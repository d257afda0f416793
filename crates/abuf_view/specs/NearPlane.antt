-- The near plane: the cut of an edge at it, and the clip table. m is the w of the plane.
use Rattle.std.specs.Prelude.{ℤ, ◌+ℤ◌, ◌-ℤ◌, ◌*ℤ◌, ◌<ℤ◌, ◌≤ℤ◌, pos, unsigned_abs, ◌≤◌, ◌<◌, ◌*◌, ◌^◌, Bool, true, false, List, [], ◌∷◌, int_lt, not}
use Rattle.abuf_num.specs.Division.{floor_div}
use Rattle.abuf_view.specs.declared.eye.EyePoint.{EyePoint}
use Rattle.abuf_view.specs.declared.near_plane.EyeTriangle.{EyeTriangle}

-- At the plane or behind it, as the camera looks.
abbrev pub is_inside : ℤ → EyePoint → Bool
is_inside m s = not (int_lt s.w m)

-- Where the edge from p inside to q outside meets the near plane, with x and y rounded down.
abbrev pub cut : ℤ → EyePoint → EyePoint → EyePoint
cut m p q = record {
  x = p.x +ℤ floor_div ((q.x -ℤ p.x) *ℤ (p.w -ℤ m)) (p.w -ℤ q.w);
  y = p.y +ℤ floor_div ((q.y -ℤ p.y) *ℤ (p.w -ℤ m)) (p.w -ℤ q.w);
  w = m;
}

-- Three corners.
abbrev pub three : EyePoint → EyePoint → EyePoint → EyeTriangle
three a b c = record { a = a; b = b; c = c }

-- The parts of a triangle whose corners a and b, or a alone, are inside.
abbrev pub two_inside : ℤ → EyePoint → EyePoint → EyePoint → List EyeTriangle
two_inside m a b c = three a b (cut m b c) ∷ three a (cut m b c) (cut m a c) ∷ []

abbrev pub one_inside : ℤ → EyePoint → EyePoint → EyePoint → List EyeTriangle
one_inside m a b c = three a (cut m a b) (cut m a c) ∷ []

-- The clip table: by the corners that are inside, the parts in front of the plane.
abbrev pub clip_by : Bool → Bool → Bool → ℤ → EyePoint → EyePoint → EyePoint → List EyeTriangle
clip_by true true true m a b c = three a b c ∷ []
clip_by true true false m a b c = two_inside m a b c
clip_by false true true m a b c = two_inside m b c a
clip_by true false true m a b c = two_inside m c a b
clip_by true false false m a b c = one_inside m a b c
clip_by false true false m a b c = one_inside m b c a
clip_by false false true m a b c = one_inside m c a b
clip_by false false false m a b c = []

abbrev pub clipped : ℤ → EyePoint → EyePoint → EyePoint → List EyeTriangle
clipped m a b c = clip_by (is_inside m a) (is_inside m b) (is_inside m c) m a b c

-- What the norm of a camera's turn and the w of its near plane keep to.
pub record IsNearPlane (norm w : ℤ) : Type 0 where
  pub norm_low : pos 1 ≤ℤ norm
  pub norm_high : norm ≤ℤ pos 4194304
  pub w_low : unsigned_abs norm * 4096 ≤ unsigned_abs w
  pub w_some : pos 0 <ℤ w
  pub w_high : unsigned_abs w < 2 ^ 53

-- What every point in eye space keeps to.
pub record IsEyePoint (norm : ℤ) (s : EyePoint) : Type 0 where
  pub x_small : unsigned_abs s.x ≤ unsigned_abs norm * 8589934588
  pub y_small : unsigned_abs s.y ≤ unsigned_abs norm * 8589934588
  pub w_small : unsigned_abs s.w ≤ unsigned_abs norm * 8589934588

-- A triangle in eye space whose corners are at the plane or beyond it.
pub record IsInFront (norm m : ℤ) (t : EyeTriangle) : Type 0 where
  pub a_bounded : IsEyePoint norm t.a
  pub b_bounded : IsEyePoint norm t.b
  pub c_bounded : IsEyePoint norm t.c
  pub a_inside : m ≤ℤ t.a.w
  pub b_inside : m ≤ℤ t.b.w
  pub c_inside : m ≤ℤ t.c.w
