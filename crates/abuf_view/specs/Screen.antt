-- The position of a point on the screen, in 1/256 pixel.
use Rattle.std.specs.Prelude.{ℕ, ◌*◌, ℤ, pos, negsuc, neg_ℤ, ◌+ℤ◌, ◌-ℤ◌, ◌*ℤ◌, unsigned_abs}
use Rattle.abuf_num.specs.declared.limits.TheConstants.{MAX_DEPTH}
use Rattle.abuf_raster.specs.declared.point.Point.{Point}
use Rattle.abuf_raster.specs.Triangle.{Triangle}
use Rattle.abuf_num.specs.Division.{floor_div, round_div}
use Rattle.abuf_view.specs.declared.eye.EyePoint.{EyePoint}
use Rattle.abuf_view.specs.declared.near_plane.EyeTriangle.{EyeTriangle}

-- The position on the screen: x to the right and y downward from the upper left corner, both scaled by the height.
abbrev pub screen_position : ℕ → ℕ → ℤ → EyePoint → Point
screen_position width height focal s = record {
  x = pos (128 * width) +ℤ round_div (pos (128 * height) *ℤ focal *ℤ s.x) (pos 65536 *ℤ s.w);
  y = pos (128 * height) -ℤ round_div (pos (128 * height) *ℤ focal *ℤ s.y) (pos 65536 *ℤ s.w);
}

-- The depth value: the greatest at the near plane, whose w is m, and less behind it; rounded down.
abbrev pub depth_value : ℤ → EyePoint → ℕ
depth_value m s = unsigned_abs (floor_div (pos MAX_DEPTH *ℤ m) s.w)

-- A triangle on the screen.
abbrev pub on_screen : ℕ → ℕ → ℤ → ℤ → EyeTriangle → Triangle
on_screen width height focal m t = record {
  a = screen_position width height focal t.a;
  b = screen_position width height focal t.b;
  c = screen_position width height focal t.c;
  qa = depth_value m t.a;
  qb = depth_value m t.b;
  qc = depth_value m t.c;
}

-- A number of this size, negative where the first number is.
abbrev pub signed_by : ℤ → ℕ → ℤ
signed_by (pos _) size = pos size
signed_by (negsuc _) size = neg_ℤ (pos size)
