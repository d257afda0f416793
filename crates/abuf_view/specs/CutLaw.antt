-- What is true of the cut and of the clip table.
use Rattle.std.specs.Prelude.{◌≡◌, ◌⊎◌, ℤ, pos, ◌+ℤ◌, ◌-ℤ◌, ◌*ℤ◌, ◌≤ℤ◌, ◌<ℤ◌}
use Rattle.abuf_view.specs.declared.eye.EyePoint.{EyePoint}
use Rattle.abuf_view.specs.declared.near_plane.EyeTriangle.{EyeTriangle}

-- Each corner is at the plane of m or behind it.
abbrev pub IsBehind : ℤ → EyeTriangle → Type 0
IsBehind m t = (m ≤ℤ t.a.w) × (m ≤ℤ t.b.w) × (m ≤ℤ t.c.w)

-- Between p and q, in either order.
abbrev pub IsBetween : ℤ → ℤ → ℤ → Type 0
IsBetween p q z = ((p ≤ℤ z) × (z ≤ℤ q)) ⊎ ((q ≤ℤ z) × (z ≤ℤ p))

-- The greatest whole number not above n / d is z.
abbrev pub IsFloorOf : ℤ → ℤ → ℤ → Type 0
IsFloorOf n d z = ((z *ℤ d) ≤ℤ n) × (n <ℤ ((z +ℤ pos 1) *ℤ d))

-- On the edge whose first coordinate runs from u to v while w runs from p to q, this is p - q times the coordinate at which w = m:
-- (q - p) (coordinate - u) = (v - u) (m - p).
abbrev pub crossing : ℤ → ℤ → ℤ → ℤ → ℤ → ℤ
crossing m u p v q = u *ℤ (p -ℤ q) +ℤ (v -ℤ u) *ℤ (p -ℤ m)

-- The cut of the edge from p to q at w = m is s: its x and y are the greatest whole numbers not above those of the exact point, and lie
-- between those of the ends.
pub record IsCutOf (m : ℤ) (p q s : EyePoint) : Type 0 where
  pub x_floor : IsFloorOf (crossing m p.x p.w q.x q.w) (p.w -ℤ q.w) s.x
  pub y_floor : IsFloorOf (crossing m p.y p.w q.y q.w) (p.w -ℤ q.w) s.y
  pub x_between : IsBetween p.x q.x s.x
  pub y_between : IsBetween p.y q.y s.y
  pub at_plane : s.w ≡ m
