-- The change to eye space, computed once of a camera.
use Rattle.std.specs.Prelude.{◌≤◌, ℤ, pos, ◌+ℤ◌, ◌*ℤ◌, neg_ℤ, unsigned_abs, List, map, flat_map}
use Rattle.abuf_num.specs.declared.limits.TheConstants.{MAX_SIDE}
use Rattle.abuf_num.specs.declared.plain.Paint.{Paint}
use Rattle.abuf_view.specs.Camera.{Camera, norm, row_x, row_y, row_z, dot, plane, point_of, IsBounded, IsFrom}
use Rattle.abuf_scene.specs.declared.triangles.Triangle.{Triangle}
use Rattle.abuf_raster.specs.Triangle.{Triangle as OnScreen}
use Rattle.abuf_view.specs.NearPlane.{IsNearPlane, clipped}
use Rattle.abuf_view.specs.Screen.{on_screen}
use Rattle.abuf_view.specs.declared.near_plane.EyeTriangle.{EyeTriangle}
use Rattle.abuf_view.specs.declared.point.Point3.{Point3}
use Rattle.abuf_view.specs.declared.eye.EyePoint.{EyePoint}
use Rattle.abuf_view.specs.declared.eye.Eye.{Eye}

abbrev pub eye_of : Camera → Eye
eye_of k = record {
  x = row_x k.turn;
  y = row_y k.turn;
  z = row_z k.turn;
  shift = k.shift;
  near_plane = record { norm = norm k.turn; w = plane k };
  screen = record { width = k.width; height = k.height; focal = k.focal };
}

-- Where it sees a point.
abbrev pub eye_point_by : Eye → Point3 → EyePoint
eye_point_by e p = record {
  x = dot e.x p +ℤ e.near_plane.norm *ℤ e.shift.x;
  y = dot e.y p +ℤ e.near_plane.norm *ℤ e.shift.y;
  w = neg_ℤ (dot e.z p +ℤ e.near_plane.norm *ℤ e.shift.z);
}

-- The parts of a triangle in front of its near plane.
abbrev pub clipped_by : Eye → Triangle → List EyeTriangle
clipped_by e t = clipped e.near_plane.w (eye_point_by e (point_of t.a)) (eye_point_by e (point_of t.b)) (eye_point_by e (point_of t.c))

-- A part on its screen.
abbrev pub on_screen_by : Eye → EyeTriangle → OnScreen
on_screen_by e t = on_screen e.screen.width e.screen.height e.screen.focal e.near_plane.w t

-- No entry of a row is above the norm.
abbrev pub IsRow : ℤ → Point3 → Type 0
IsRow n r = (unsigned_abs r.x ≤ unsigned_abs n) × (unsigned_abs r.y ≤ unsigned_abs n) × (unsigned_abs r.z ≤ unsigned_abs n)

-- What is computed of every camera keeps to this.
pub record IsEye (e : Eye) : Type 0 where
  pub near_plane : IsNearPlane e.near_plane.norm e.near_plane.w
  pub x_row : IsRow e.near_plane.norm e.x
  pub y_row : IsRow e.near_plane.norm e.y
  pub z_row : IsRow e.near_plane.norm e.z
  pub shift : IsBounded e.shift
  pub width : e.screen.width ≤ MAX_SIDE
  pub height : e.screen.height ≤ MAX_SIDE
  pub focal : IsFrom (pos 0) (pos 1048576) e.screen.focal

-- The parts of triangles on its screen, and the paint of each.
abbrev pub tris_by : Eye → List Triangle → List OnScreen
tris_by e = flat_map (λ t. map (on_screen_by e) (clipped_by e t))

abbrev pub paints_by : Eye → List Triangle → List Paint
paints_by e = flat_map (λ t. map (λ (c : EyeTriangle). t.paint) (clipped_by e t))
