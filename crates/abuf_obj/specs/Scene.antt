-- What an OBJ file gives: points, faces, names of materials and of libraries, or its first fault.
use Rattle.std.specs.Prelude.{◌+◌, ◌++◌, ◌∷◌, [], ℕ, ℤ, Bool, nat_le, List, length, flat_map, find, option_to_list, option_map, Option, Some, None}
use Rattle.std.specs.List.{list_any}
use Rattle.abuf_text.specs.Lines.{lines}
use Rattle.abuf_text.specs.Statement.{statement, arguments}
use Rattle.abuf_obj.specs.Keywords.{keyword_of}
use Rattle.abuf_obj.specs.Points.{point_of}
use Rattle.abuf_obj.specs.Elements.{vertices_of}
use Rattle.abuf_obj.specs.Above.{Above, above_of, names_of, libraries_of}
use Rattle.abuf_obj.specs.Faults.{fault_from}
use Rattle.abuf_obj.specs.declared.keyword.Keyword.{Keyword}
use Rattle.abuf_obj.specs.declared.keyword.Keyword.TheVariants as keyword
use Rattle.abuf_obj.specs.declared.fault.Why.{Why}
use Rattle.abuf_obj.specs.declared.fault.Why.TheVariants.{BadIndex}
use Rattle.abuf_obj.specs.declared.face.Face.{Face}

abbrev pub points_by : Keyword → List (List ℕ) → List (List ℤ)
points_by keyword.Vertex arguments = option_to_list (point_of arguments)
points_by _ arguments = []

abbrev pub points_in : List ℕ → List (List ℤ)
points_in line = points_by (keyword_of (statement line)) (arguments line)

-- the points of the `v` lines
abbrev pub points_of : List (List ℕ) → List (List ℤ)
points_of lines = flat_map points_in lines

abbrev pub faces_by : ℕ → Above → Keyword → List (List ℕ) → List Face
faces_by number above keyword.Face elements = option_to_list (option_map (λ vertices. record { line = number; corners = vertices; name = above.name }) (vertices_of above.points elements))
faces_by number above _ arguments = []

abbrev pub faces_in : ℕ → Above → List ℕ → List Face
faces_in number above line = faces_by number above (keyword_of (statement line)) (arguments line)

-- the faces of the `f` lines that stand behind other lines: the number of its line, its vertices, the name in use
abbrev pub faces_from : List (List ℕ) → List (List ℕ) → List Face
faces_from before [] = []
faces_from before (line ∷ later) = faces_in (length before + 1) (above_of before) line ++ faces_from (before ++ line ∷ []) later

-- the faces of the `f` lines
abbrev pub faces_of : List (List ℕ) → List Face
faces_of lines = faces_from [] lines

-- some corner is at or beyond the number of points
abbrev pub is_astray : ℕ → Face → Bool
is_astray points face = list_any (λ corner. nat_le points corner) face.corners

-- the line of the first face with a corner that no point of the whole file has
abbrev pub astray_line : ℕ → List Face → Option ℕ
astray_line points faces = option_map (λ face. face.line) (find (is_astray points) faces)

abbrev pub or_astray : Option (ℕ × Why) → Option ℕ → Option (ℕ × Why)
or_astray (Some fault) line = Some fault
or_astray None (Some line) = Some (line, BadIndex)
or_astray None None = None

-- the first line with a fault; where there is none, the first face that goes astray
abbrev pub first_fault : List (List ℕ) → Option (ℕ × Why)
first_fault lines = or_astray (fault_from [] lines) (astray_line (length (points_of lines)) (faces_of lines))

-- from the bytes of a file: its points, and then its faces, its names, its libraries and its first fault
unfoldable pub points : List ℕ → List (List ℤ)
points bytes = points_of (lines bytes)

unfoldable pub faces : List ℕ → List Face
faces bytes = faces_of (lines bytes)

unfoldable pub names : List ℕ → List (List ℕ)
names bytes = names_of (lines bytes)

unfoldable pub libraries : List ℕ → List (List ℕ)
libraries bytes = libraries_of (lines bytes)

unfoldable pub obj_fault : List ℕ → Option (ℕ × Why)
obj_fault bytes = first_fault (lines bytes)
