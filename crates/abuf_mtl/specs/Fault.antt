-- The first fault of a Wavefront MTL library that is read after others.
use Rattle.std.specs.Prelude.{◌≡◌, ◌||◌, ◌+◌, ◌++◌, ◌∷◌, [], ℕ, Bool, nat_lt, List, length, flat_map, Option, Some, None, is_some, if◌then◌else◌}
use Rattle.abuf_num.specs.declared.limits.TheConstants.{MAX_MATERIALS}
use Rattle.abuf_text.specs.Lines.{lines}
use Rattle.abuf_text.specs.Statement.{statement, arguments}
use Rattle.abuf_text.specs.Rest.{rest}
use Rattle.abuf_text.specs.Names.{index_of, with_names}
use Rattle.abuf_mtl.specs.Said.{keyword_of, colour_of, alpha_of}
use Rattle.abuf_mtl.specs.declared.keyword.Keyword.{Keyword}
use Rattle.abuf_mtl.specs.declared.keyword.Keyword.TheVariants as keyword
use Rattle.abuf_mtl.specs.declared.fault.MtlWhy.{MtlWhy}
use Rattle.abuf_mtl.specs.declared.fault.MtlWhy.TheVariants as why_
use Rattle.abuf_mtl.specs.declared.fault.MtlFault.{MtlFault}
use Rattle.abuf_mtl.specs.declared.fault.MtlFault.TheVariants.{Line, Memory}

-- the name that a line of this kind with this rest gives
abbrev pub names_by : Keyword → List ℕ → List (List ℕ)
names_by keyword.Material text = text ∷ []
names_by keyword.Colour text = []
names_by keyword.Alpha text = []
names_by keyword.Other text = []

-- the name that a line gives, if it is a `newmtl` line
abbrev pub names_in : List ℕ → List (List ℕ)
names_in line = names_by (keyword_of (statement line)) (rest line)

-- the names of the materials on these lines
abbrev pub names_on : List (List ℕ) → List (List ℕ)
names_on lines = flat_map names_in lines

-- the names of the materials of these libraries, each at its first appearance
abbrev pub names_of : List (List ℕ) → List (List ℕ)
names_of libraries = with_names [] (flat_map (λ library. names_on (lines library)) libraries)

-- a `newmtl` line is among these lines, so a material is open after them
abbrev pub is_open : List (List ℕ) → Bool
is_open lines = nat_lt 0 (length (names_on lines))

-- what is wrong with the name of a `newmtl` line, where these names are there: there are at most MAX_MATERIALS
abbrev pub name_why : List (List ℕ) → List ℕ → Option MtlWhy
name_why names name =
    if nat_lt 0 (length name) then (if is_some (index_of name names) || nat_lt (length names) MAX_MATERIALS then None else Some why_.TooMany)
    else Some why_.NoName

-- what is wrong with a `Kd` or a `d` line, by whether a material is open and whether its numbers can be read
abbrev pub number_why : Bool → Bool → Option MtlWhy
number_why begun read = if begun then (if read then None else Some why_.BadNumber) else Some why_.NoMaterial

-- what is wrong with a line of this kind, with these arguments and this rest
abbrev pub why_by : List (List ℕ) → Bool → Keyword → List (List ℕ) → List ℕ → Option MtlWhy
why_by names begun keyword.Material values text = name_why names text
why_by names begun keyword.Colour values text = number_why begun (is_some (colour_of values))
why_by names begun keyword.Alpha values text = number_why begun (is_some (alpha_of values))
why_by names begun keyword.Other values text = None

-- what is wrong with a line, by the names that are there and whether a material is open
abbrev pub why : List (List ℕ) → Bool → List ℕ → Option MtlWhy
why names begun line = why_by names begun (keyword_of (statement line)) (arguments line) (rest line)

-- the fault of the line of that number, or a later one
abbrev pub fault_or : ℕ → Option MtlWhy → Option (ℕ × MtlWhy) → Option (ℕ × MtlWhy)
fault_or number None later = later
fault_or number (Some why) later = Some (number, why)

-- the first fault on lines of a library that stand after others, and after libraries with these names
abbrev pub fault_from : List (List ℕ) → List (List ℕ) → List (List ℕ) → Option (ℕ × MtlWhy)
fault_from names before [] = None
fault_from names before (line ∷ rest) =
    fault_or (length before + 1) (why (with_names names (names_on before)) (is_open before) line) (fault_from names (before ++ line ∷ []) rest)

-- the first fault of a library that is read after others: the number of its line, from 1, and the cause
abbrev pub library_fault : List (List ℕ) → List ℕ → Option (ℕ × MtlWhy)
library_fault earlier library = fault_from (names_of earlier) [] (lines library)

-- memory ran out, or the fault is this line's first cause
abbrev pub TellsWhy : ℕ → Option MtlWhy → MtlFault → Type 0
TellsWhy number why Memory = Unit {0}
TellsWhy number why (Line line cause) = (line ≡ number) × (why ≡ Some cause)

-- memory ran out, or the fault is the first one
abbrev pub TellsFirst : Option (ℕ × MtlWhy) → MtlFault → Type 0
TellsFirst first Memory = Unit {0}
TellsFirst first (Line line cause) = first ≡ Some (line, cause)
