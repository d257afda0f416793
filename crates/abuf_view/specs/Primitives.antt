-- The primitives of a scene's triangles. The index of one in the list is its number.
use Rattle.std.specs.Prelude.{◌≤◌, All, List, length, map, flat_map}
use Rattle.abuf_num.specs.declared.limits.TheConstants.{MAX_TRIANGLES}
use Rattle.abuf_num.specs.declared.plain.Paint.{Paint}
use Rattle.abuf_scene.specs.declared.triangles.Triangle.{Triangle}
use Rattle.abuf_scene.specs.Triangles.{IsTriangleInRange}
use Rattle.abuf_raster.specs.Triangle.{Triangle as OnScreen}
use Rattle.abuf_view.specs.Camera.{Camera, point_of, eye_point, plane}
use Rattle.abuf_view.specs.NearPlane.{clipped}
use Rattle.abuf_view.specs.Screen.{on_screen}
use Rattle.abuf_view.specs.declared.near_plane.EyeTriangle.{EyeTriangle}

-- What every camera can project: at most 1048576 triangles, with coordinates of at most 2147483647 either way.
pub record AreInLimits (triangles : List Triangle) : Type 0 where
  pub few : length triangles ≤ MAX_TRIANGLES
  pub near : All IsTriangleInRange triangles

-- A triangle on the screen, and what it is drawn in.
pub record Primitive : Type 0 where
  pub triangle : OnScreen
  pub paint : Paint

-- Every primitive has the paint of its triangle.
abbrev pub primitive : Camera → Paint → EyeTriangle → Primitive
primitive k paint corners = record { triangle = on_screen k.width k.height k.focal (plane k) corners; paint = paint }

-- The primitives of one triangle: its parts in front of the near plane.
abbrev pub prims_of : Camera → Triangle → List Primitive
prims_of k t = map (primitive k t.paint) (clipped (plane k) (eye_point k (point_of t.a)) (eye_point k (point_of t.b)) (eye_point k (point_of t.c)))

-- Triangle by triangle, what the clip table names.
abbrev pub prims : Camera → List Triangle → List Primitive
prims k triangles = flat_map (prims_of k) triangles
