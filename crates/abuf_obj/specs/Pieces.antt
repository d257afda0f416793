-- What a piece of a file gives, where it is known how many lines and points stand above it, and which names.
use Rattle.std.specs.Prelude.{◌≡◌, ◌≤◌, ◌+◌, ◌++◌, ◌∷◌, [], ℕ, List, length, map, flat_map, None, if◌then◌else◌, Result, IfOk}
use denote.Ref.{Bor}
use Rattle.abuf_num.specs.declared.limits.TheConstants.{MAX_TRIANGLES}
use Rattle.abuf_text.specs.Statement.{statement}
use Rattle.abuf_obj.specs.Keywords.{keyword_of}
use Rattle.abuf_obj.specs.Above.{Above, above_of, is_vertex, points_on, triangles_on, names_of, libraries_of, name_in_use}
use Rattle.abuf_obj.specs.Faults.{fault_from}
use Rattle.abuf_obj.specs.Scene.{points_of, faces_from}
use Rattle.abuf_obj.specs.Vertices.{clamped_face}
use Rattle.abuf_obj.specs.Taking.{counted}
use Rattle.abuf_obj.specs.declared.given_up.GivenUp.{GivenUp}
use Rattle.abuf_obj.specs.declared.keyword.Keyword.{Keyword}
use Rattle.abuf_obj.specs.declared.keyword.Keyword.TheVariants as keyword
use Rattle.abuf_obj.specs.declared.reader.ObjReader.{ObjReader}
use Rattle.abuf_obj.specs.declared.tally.Tally.{Tally}

-- the line, where it has the name of a material or of a library
abbrev pub name_line_by : Keyword → List ℕ → List (List ℕ)
name_line_by keyword.Material line = line ∷ []
name_line_by keyword.Library line = line ∷ []
name_line_by _ line = []

-- the lines with names
abbrev pub name_lines_on : List (List ℕ) → List (List ℕ)
name_lines_on lines = flat_map (λ line. name_line_by (keyword_of (statement line)) line) lines

abbrev pub texts : List (Bor (List ℕ)) → List (List ℕ)
texts lines = map (λ line. line.now) lines

-- one line more was counted
pub record Counts (line : List ℕ) (old new : Tally) : Type 0 where
  pub lines : new.lines ≡ old.lines + 1
  pub points : new.points ≡ old.points + (if is_vertex (keyword_of (statement line)) then 1 else 0)
  pub named : texts new.named.items ≡ texts old.named.items ++ name_line_by (keyword_of (statement line)) line

-- these lines were counted
pub record IsTally (piece : List (List ℕ)) (tally : Tally) : Type 0 where
  pub lines : tally.lines ≡ length piece
  pub points : tally.points ≡ points_on piece
  pub named : texts tally.named.items ≡ name_lines_on piece

-- the reader has the names on these lines
pub record HasNames (lines : List (List ℕ)) (r : ObjReader) : Type 0 where
  pub names : r.names ≡ names_of lines
  pub libraries : r.libraries ≡ libraries_of lines
  pub name : r.name ≡ name_in_use lines

-- the reader knows what stands above the line behind these, but for triangles
pub record BeginsBehind (before : List (List ℕ)) (r : ObjReader) : Type 0 where
  pub points : r.points_above + length r.points ≡ points_on before
  pub names : HasNames before r

abbrev pub with_triangles : ℕ → Above → Above
with_triangles triangles above = record above { triangles = triangles }

-- the reader has the lines of a piece that stands behind these, and no others; where all triangles are few enough, no line of the piece is at fault
pub record HasPiece (before lines : List (List ℕ)) (r : ObjReader) : Type 0 where
  pub above : counted r ≡ with_triangles (triangles_on lines) (above_of (before ++ lines))
  pub points : r.points ≡ points_of lines
  pub faces : r.faces ≡ map clamped_face (faces_from before lines)
  pub sound : triangles_on (before ++ lines) ≤ MAX_TRIANGLES → fault_from before lines ≡ None

-- reading these lines behind so many others, by a reader that begins with what stands there, gives the piece or is given up
abbrev pub GivesPiece : ℕ → ObjReader → List (List ℕ) → Result ObjReader GivenUp → Type 0
GivesPiece lines_above start lines result =
    (before : List (List ℕ)) → lines_above ≡ length before → BeginsBehind before start → IfOk result (HasPiece before lines)

-- the first reader has the lines of a piece that stands behind these, and the others have the lines behind that piece
pub record HasFirst (AreOthers : List (List ℕ) → List (List ℕ) → Type 0) (before lines : List (List ℕ)) (first : ObjReader) : Type 0 where
  pub front : List (List ℕ)
  pub back : List (List ℕ)
  pub all : lines ≡ front ++ back
  pub has : HasPiece before front first
  pub others : AreOthers (before ++ front) back

-- the readers have lines that stand behind these, each those of a piece, in the order of the pieces
abbrev pub HavePieces : List ObjReader → List (List ℕ) → List (List ℕ) → Type 0
HavePieces [] before lines = lines ≡ []
HavePieces (first ∷ others) before lines = HasFirst (HavePieces others) before lines first

-- so it is whatever so many lines stand above, if the reader begins with what stands there
abbrev pub Behind : ℕ → ObjReader → (List (List ℕ) → Type 0) → Type 0
Behind lines_above start IsSo = (before : List (List ℕ)) → lines_above ≡ length before → BeginsBehind before start → IsSo before
