-- Faces in rows, with the corners of all of them in one list.
use Rattle.std.specs.Prelude.{◌+◌, ◌∷◌, [], ℕ, List, length, take, drop}
use Rattle.abuf_obj.specs.declared.face.Face.{Face}
use Rattle.abuf_obj.specs.declared.faces.FaceRow.{FaceRow}

-- how many corners the rows have
abbrev pub corners_in : List FaceRow → ℕ
corners_in [] = 0
corners_in (row ∷ rows) = row.count + corners_in rows

-- the faces of the rows, whose corners follow one another
abbrev pub faces_in_rows : List ℕ → List FaceRow → List Face
faces_in_rows corners [] = []
faces_in_rows corners (row ∷ rows) = record { line = row.line; corners = take row.count corners; name = row.name } ∷ faces_in_rows (drop row.count corners) rows

-- how many corners the faces have together
abbrev pub corners_of : List Face → ℕ
corners_of [] = 0
corners_of (face ∷ faces) = length face.corners + corners_of faces
