-- Points on the screen in short numbers, and a table of them.
use Rattle.std.specs.Prelude.{◌≡◌, ℕ, ◌+◌, ◌*◌, ◌^◌, ◌<◌, Bool, true, false, ℤ, unsigned_abs, nat_lt, if◌then◌else◌, List, [], ◌∷◌, map, length, take, drop, slice_index_or, Option, Some, None}
use Rattle.abuf_raster.specs.Triangle.{Triangle as OnScreen}
use Rattle.abuf_scene.specs.declared.triangles.Triangle.{Triangle}
use Rattle.abuf_view.specs.Camera.{point_of}
use Rattle.abuf_view.specs.NearPlane.{is_inside}
use Rattle.abuf_view.specs.Screen.{screen_position, depth_value}
use Rattle.abuf_view.specs.Eye.{eye_point_by, clipped_by, on_screen_by}
use Rattle.abuf_view.specs.declared.eye.Eye.{Eye}
use Rattle.abuf_view.specs.declared.eye.EyePoint.{EyePoint}
use Rattle.abuf_view.specs.declared.near_plane.EyeTriangle.{EyeTriangle}
use Rattle.abuf_view.specs.declared.short_points.ShortPoint.{ShortPoint}

-- The number, where it is below 2^31 either way.
unfoldable pub short : ℤ → Option ℤ
short z = if nat_lt (unsigned_abs z) 2147483648 then Some z else None

-- The point of these coordinates, where both are short.
abbrev pub short_of : Option ℤ → Option ℤ → ℕ → Option ShortPoint
short_of (Some x) (Some y) depth = Some (record { x = x; y = y; depth = depth })
short_of (Some x) None depth = None
short_of None y depth = None

-- Where the eye sees a point in eye space, if that is in front of the near plane.
abbrev pub short_if : Bool → Eye → EyePoint → Option ShortPoint
short_if true e s = short_of (short (screen_position e.screen.width e.screen.height e.screen.focal s).x) (short (screen_position e.screen.width e.screen.height e.screen.focal s).y) (depth_value e.near_plane.w s)
short_if false e s = None

-- Where it sees a point of the scene.
abbrev pub short_point : Eye → List ℤ → Option ShortPoint
short_point e p = short_if (is_inside e.near_plane.w (eye_point_by e (point_of p))) e (eye_point_by e (point_of p))

-- Each entry that there is is that of the point in its place.
pub record AreOf (e : Eye) (points : List (List ℤ)) (entries : List (Option ShortPoint)) : Type 0 where
  pub each : (k : ℕ) (s : ShortPoint) → slice_index_or entries k None ≡ Some s → (k < length points) × (short_point e (slice_index_or points k []) ≡ Some s)

-- Chunk by chunk, the entries of points of which each chunk has so many.
pub record AreChunks (e : Eye) (points : List (List ℤ)) (size : ℕ) (chunks : List (List (Option ShortPoint))) : Type 0 where
  pub each : (n : ℕ) (d : List (Option ShortPoint)) → n < length chunks → AreOf e (take size (drop (n * size) points)) (slice_index_or chunks n d)

-- Each entry that there is in chunks for 2^bits points each is that of its point.
abbrev pub AreEntries : Eye → List (List ℤ) → ℕ → List (List (Option ShortPoint)) → Type 0
AreEntries e points bits chunks = (n k : ℕ) (s : ShortPoint) → slice_index_or (slice_index_or chunks n []) k None ≡ Some s → short_point e (slice_index_or points (n * 2 ^ bits + k) []) ≡ Some s

-- The triangle on the screen that these three points make.
abbrev pub joined : ShortPoint → ShortPoint → ShortPoint → OnScreen
joined a b c = record {
  a = record { x = a.x; y = a.y };
  b = record { x = b.x; y = b.y };
  c = record { x = c.x; y = c.y };
  qa = a.depth;
  qb = b.depth;
  qc = c.depth;
}

-- The whole of a triangle is in front of the near plane, and is seen as this one.
pub record IsWhole (e : Eye) (u : Triangle) (t : OnScreen) : Type 0 where
  pub tris : map (on_screen_by e) (clipped_by e u) ≡ t ∷ []
  pub paints : map (λ (c : EyeTriangle). u.paint) (clipped_by e u) ≡ u.paint ∷ []
