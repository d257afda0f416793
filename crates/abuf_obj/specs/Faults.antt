-- What is wrong with a line, asked of each line by itself, by what stands above it.
use Rattle.std.specs.Prelude.{◌≡◌, ◌||◌, ◌+◌, ◌-◌, ◌++◌, ◌∷◌, [], ℕ, nat_le, nat_lt, List, length, Option, Some, None, is_some, if◌then◌else◌}
use Rattle.abuf_num.specs.declared.limits.TheConstants.{MAX_ELEMENTS, MAX_LIBRARIES, MAX_MATERIALS, MAX_POINTS, MAX_TRIANGLES}
use Rattle.abuf_text.specs.Statement.{statement, arguments}
use Rattle.abuf_text.specs.Rest.{rest}
use Rattle.abuf_text.specs.Names as names
use Rattle.abuf_obj.specs.Keywords.{keyword_of}
use Rattle.abuf_obj.specs.Points.{point_of}
use Rattle.abuf_obj.specs.Elements.{vertices_of}
use Rattle.abuf_obj.specs.Above.{Above, above_of}
use Rattle.abuf_obj.specs.declared.keyword.Keyword.{Keyword}
use Rattle.abuf_obj.specs.declared.keyword.Keyword.TheVariants as keyword
use Rattle.abuf_obj.specs.declared.fault.Why.{Why}
use Rattle.abuf_obj.specs.declared.fault.Why.TheVariants as why_
use Rattle.abuf_obj.specs.declared.fault.ObjFault.{ObjFault}
use Rattle.abuf_obj.specs.declared.fault.ObjFault.TheVariants.{Line, Memory}

-- a `v` line: three numbers, and at most 1048576 points
abbrev pub point_why : Above → List (List ℕ) → Option Why
point_why above arguments =
    if is_some (point_of arguments) then (if nat_lt above.points MAX_POINTS then None else Some why_.TooManyPoints)
    else Some why_.BadNumber

-- an `f` line: 3 to 1024 elements, each with a vertex, and at most 1048576 triangles
abbrev pub face_why : Above → List (List ℕ) → Option Why
face_why above elements =
    if nat_lt (length elements) 3 then Some why_.TooFewElements
    else (if nat_lt MAX_ELEMENTS (length elements) then Some why_.TooManyElements
    else (if is_some (vertices_of above.points elements)
    then (if nat_le (above.triangles + (length elements - 2)) MAX_TRIANGLES then None else Some why_.TooManyTriangles)
    else Some why_.BadIndex))

-- a line with a name, where there may be so many names
abbrev pub name_why : ℕ → Why → List (List ℕ) → List ℕ → Option Why
name_why most too_many known name =
    if nat_lt 0 (length name) then (if is_some (names.index_of name known) || nat_lt (length known) most then None else Some too_many)
    else Some why_.NoName

abbrev pub why_by : Above → Keyword → List (List ℕ) → List ℕ → Option Why
why_by above keyword.Vertex arguments rest = point_why above arguments
why_by above keyword.Face arguments rest = face_why above arguments
why_by above keyword.Material arguments rest = name_why MAX_MATERIALS why_.TooManyMaterials above.names rest
why_by above keyword.Library arguments rest = name_why MAX_LIBRARIES why_.TooManyLibraries above.libraries rest
why_by above keyword.Passed arguments rest = None
why_by above keyword.Refused arguments rest = Some why_.Keyword

-- what is wrong with a line, if anything
abbrev pub why : Above → List ℕ → Option Why
why above line = why_by above (keyword_of (statement line)) (arguments line) (rest line)

abbrev pub fault_or : ℕ → Option Why → Option (ℕ × Why) → Option (ℕ × Why)
fault_or number None later = later
fault_or number (Some why) later = Some (number, why)

-- the first fault on lines that stand behind others, with the number of its line, from 1
abbrev pub fault_from : List (List ℕ) → List (List ℕ) → Option (ℕ × Why)
fault_from before [] = None
fault_from before (line ∷ later) = fault_or (length before + 1) (why (above_of before) line) (fault_from (before ++ line ∷ []) later)

-- the fault is that memory ran out, or this line's cause
abbrev pub TellsWhy : ℕ → Option Why → ObjFault → Type 0
TellsWhy number why Memory = Unit {0}
TellsWhy number why (Line line cause) = (line ≡ number) × (why ≡ Some cause)

-- the fault is that memory ran out, or the first one
abbrev pub TellsFirst : Option (ℕ × Why) → ObjFault → Type 0
TellsFirst first Memory = Unit {0}
TellsFirst first (Line line cause) = first ≡ Some (line, cause)
