-- The triangles of a scene: the fans of its faces, each with the paint of its material.
use Rattle.std.specs.Prelude.{◌≡◌, ℕ, ℤ, ◌+◌, ◌-◌, Bool, List, [], map, flat_map, find, length, slice_index_or, Option, Some, None, option_map, is_none, ⊤}
use Rattle.std.specs.List.{range_with_len}
use Rattle.abuf_num.specs.Paints.{white}
use Rattle.abuf_num.specs.declared.plain.Paint.{Paint}
use Rattle.abuf_obj.specs.declared.face.Face.{Face}
use Rattle.abuf_obj.specs.declared.scene.Obj.{Obj}
use Rattle.abuf_obj.specs.Sound.{IsInRange}
use Rattle.abuf_mtl.specs.Material.{material}
use Rattle.abuf_scene.specs.declared.triangles.Triangle.{Triangle}
use Rattle.abuf_scene.specs.declared.assembly.SceneFault.{SceneFault}
use Rattle.abuf_scene.specs.declared.assembly.SceneFault.TheVariants.{UnknownMaterial, Memory}

-- the point of a face's corner i, from 0
abbrev pub corner : List (List ℤ) → List ℕ → ℕ → List ℤ
corner points corners i = slice_index_or points (slice_index_or corners i 0) []

-- the triangle of the corners 0, i and i + 1
abbrev pub triangle : List (List ℤ) → List ℕ → Paint → ℕ → Triangle
triangle points corners paint i = record {
  a = corner points corners 0;
  b = corner points corners i;
  c = corner points corners (i + 1);
  paint = paint;
}

-- the fan of a face with corners c0, c1, .. is (c0, c1, c2), (c0, c2, c3) and so on
abbrev pub fan : List (List ℤ) → List ℕ → Paint → List Triangle
fan points corners paint = map (triangle points corners paint) (range_with_len 1 (length corners - 2))

-- what gives each name its paint, if it is the name of a material
abbrev pub Look : Type 0
Look = List ℕ → Option Paint

-- the paint of a face by its name's index among the names; none where the name has no material. A face without a name has that
-- of a new material.
abbrev pub paint_by : Look → List (List ℕ) → Option ℕ → Option Paint
paint_by look names None = Some white
paint_by look names (Some n) = look (slice_index_or names n [])

abbrev pub fan_by : List (List ℤ) → List ℕ → Option Paint → List Triangle
fan_by points corners (Some paint) = fan points corners paint
fan_by points corners None = []

abbrev pub triangles_of : Look → Obj → Face → List Triangle
triangles_of look obj face = fan_by obj.points face.corners (paint_by look obj.names face.name)

-- the fans of all faces, in order
abbrev pub triangles_by : Look → Obj → List Triangle
triangles_by look obj = flat_map (triangles_of look obj) obj.faces

abbrev pub is_unknown : Look → List (List ℕ) → Face → Bool
is_unknown look names face = is_none (paint_by look names face.name)

-- the line of the first face whose name has no material
abbrev pub unknown_by : Look → Obj → Option ℕ
unknown_by look obj = option_map (λ face. face.line) (find (is_unknown look obj.names) obj.faces)

-- by the materials of a list of libraries: the triangles, and then the line of the first face whose name has no material
unfoldable pub triangles : List (List ℕ) → Obj → List Triangle
triangles libraries obj = triangles_by (material libraries) obj

unfoldable pub unknown : List (List ℕ) → Obj → Option ℕ
unknown libraries obj = unknown_by (material libraries) obj

-- a refusal tells the line of the unknown material; memory may always run out
abbrev pub Tells : Option ℕ → SceneFault → Type 0
Tells found (UnknownMaterial line) = found ≡ Some line
Tells found Memory = ⊤

-- each coordinate is at most 2147483647 either way, in units of 1/65536
abbrev pub IsTriangleInRange : Triangle → Type 0
IsTriangleInRange t = IsInRange t.a × IsInRange t.b × IsInRange t.c
