-- The camera, and where it sees a point. Lengths are in 1/65536.
use Rattle.std.specs.Prelude.{ℕ, ◌≤◌, ◌*◌, ◌≡◌, ℤ, pos, ◌+ℤ◌, ◌-ℤ◌, ◌*ℤ◌, neg_ℤ, ◌≤ℤ◌, unsigned_abs, List, slice_index_or, Option, MatchOption}
use Rattle.abuf_num.specs.declared.limits.TheConstants.{MAX_COORDINATE, MAX_PIXELS, MAX_SIDE}
use Rattle.abuf_view.specs.declared.quaternion.Quaternion.{Quaternion}
use Rattle.abuf_view.specs.declared.point.Point3.{Point3}
use Rattle.abuf_view.specs.declared.eye.EyePoint.{EyePoint}

-- The size of the image in pixels, a turn and then a shift of the scene, the focal length and the near distance.
pub record Camera : Type 0 where
  pub width : ℕ
  pub height : ℕ
  pub turn : Quaternion
  pub shift : Point3
  pub focal : ℤ
  pub near : ℤ

-- The quaternion and the point of these components.
abbrev pub quaternion_of : List ℤ → Quaternion
quaternion_of t = record { a = slice_index_or t 0 (pos 0); b = slice_index_or t 1 (pos 0); c = slice_index_or t 2 (pos 0); d = slice_index_or t 3 (pos 0) }

abbrev pub point_of : List ℤ → Point3
point_of p = record { x = slice_index_or p 0 (pos 0); y = slice_index_or p 1 (pos 0); z = slice_index_or p 2 (pos 0) }

-- The camera of these components.
abbrev pub camera_of : ℕ → ℕ → Quaternion → Point3 → ℤ → ℤ → Camera
camera_of width height turn shift focal near = record { width = width; height = height; turn = turn; shift = shift; focal = focal; near = near }

-- The camera of these numbers.
abbrev pub camera : ℕ → ℕ → List ℤ → List ℤ → ℤ → ℤ → Camera
camera width height turn shift focal near = camera_of width height (quaternion_of turn) (point_of shift) focal near

-- Each is at least 1 and at most the greatest side, and their product is at most the greatest number of pixels.
abbrev pub IsSize : ℕ → ℕ → Type 0
IsSize width height = (1 ≤ width) × (width ≤ MAX_SIDE) × (1 ≤ height) × (height ≤ MAX_SIDE) × (width * height ≤ MAX_PIXELS)

-- Each component is from -1024 to 1024, and not all are 0.
abbrev pub IsTurn : Quaternion → Type 0
IsTurn t =
    (unsigned_abs t.a ≤ 1024) × (unsigned_abs t.b ≤ 1024) × (unsigned_abs t.c ≤ 1024) × (unsigned_abs t.d ≤ 1024)
    × (¬ ((t.a ≡ pos 0) × (t.b ≡ pos 0) × (t.c ≡ pos 0) × (t.d ≡ pos 0)))

-- Each coordinate is within its limit, either way.
abbrev pub IsBounded : Point3 → Type 0
IsBounded p = (unsigned_abs p.x ≤ MAX_COORDINATE) × (unsigned_abs p.y ≤ MAX_COORDINATE) × (unsigned_abs p.z ≤ MAX_COORDINATE)

-- From low to high.
abbrev pub IsFrom : ℤ → ℤ → ℤ → Type 0
IsFrom low high z = (low ≤ℤ z) × (z ≤ℤ high)

-- The focal length is from 1 to 1048576, and the near distance from 4096 to 2147483647.
abbrev pub IsLens : ℤ → ℤ → Type 0
IsLens focal near = IsFrom (pos 1) (pos 1048576) focal × IsFrom (pos 4096) (pos 2147483647) near

-- What every camera keeps to.
pub record IsCamera (k : Camera) : Type 0 where
  pub size : IsSize k.width k.height
  pub turn : IsTurn k.turn
  pub shift : IsBounded k.shift
  pub lens : IsLens k.focal k.near

-- A camera is made exactly where it keeps to that.
abbrev pub IsMade : Option Camera → Camera → Type 0
IsMade made k = MatchOption made (¬ (IsCamera k)) (λ m. (m ≡ k) × IsCamera m)

-- The norm of the turn (a, b, c, d), a quaternion: the sum of the squares of its components.

abbrev pub norm : Quaternion → ℤ
norm t = t.a *ℤ t.a +ℤ t.b *ℤ t.b +ℤ t.c *ℤ t.c +ℤ t.d *ℤ t.d

-- The three rows of its matrix, which is norm times a rotation.
abbrev pub row_x : Quaternion → Point3
row_x t = record {
  x = t.a *ℤ t.a +ℤ t.b *ℤ t.b -ℤ t.c *ℤ t.c -ℤ t.d *ℤ t.d;
  y = pos 2 *ℤ (t.b *ℤ t.c -ℤ t.a *ℤ t.d);
  z = pos 2 *ℤ (t.b *ℤ t.d +ℤ t.a *ℤ t.c);
}

abbrev pub row_y : Quaternion → Point3
row_y t = record {
  x = pos 2 *ℤ (t.b *ℤ t.c +ℤ t.a *ℤ t.d);
  y = t.a *ℤ t.a -ℤ t.b *ℤ t.b +ℤ t.c *ℤ t.c -ℤ t.d *ℤ t.d;
  z = pos 2 *ℤ (t.c *ℤ t.d -ℤ t.a *ℤ t.b);
}

abbrev pub row_z : Quaternion → Point3
row_z t = record {
  x = pos 2 *ℤ (t.b *ℤ t.d -ℤ t.a *ℤ t.c);
  y = pos 2 *ℤ (t.c *ℤ t.d +ℤ t.a *ℤ t.b);
  z = t.a *ℤ t.a -ℤ t.b *ℤ t.b -ℤ t.c *ℤ t.c +ℤ t.d *ℤ t.d;
}

abbrev pub dot : Point3 → Point3 → ℤ
dot m p = m.x *ℤ p.x +ℤ m.y *ℤ p.y +ℤ m.z *ℤ p.z

-- Where the camera sees a point: the matrix times the point, and norm times the shift. The camera looks along -z, so that w is
-- the distance in front of it.
abbrev pub eye_point : Camera → Point3 → EyePoint
eye_point k p = record {
  x = dot (row_x k.turn) p +ℤ norm k.turn *ℤ k.shift.x;
  y = dot (row_y k.turn) p +ℤ norm k.turn *ℤ k.shift.y;
  w = neg_ℤ (dot (row_z k.turn) p +ℤ norm k.turn *ℤ k.shift.z);
}

-- The w of the near plane.
abbrev pub plane : Camera → ℤ
plane k = norm k.turn *ℤ k.near
