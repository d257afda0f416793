-- The libraries of a scene, one after another: the first refusal, how many are asked for, and their contents.
use Rattle.std.specs.Prelude.{◌++◌, ◌∷◌, [], ◌+◌, Bool, true, false, ℕ, nat_lt, List, length, Option, Some, None, if◌then◌else◌}
use Rattle.abuf_num.specs.declared.limits.TheConstants.{MAX_BYTES}
use Rattle.abuf_mtl.specs.Fault.{library_fault}
use Rattle.abuf_mtl.specs.declared.fault.MtlWhy.{MtlWhy}
use Rattle.abuf_top.specs.declared.stop.Refusal.{Refusal}
use Rattle.abuf_top.specs.declared.stop.Refusal.TheVariants.{LibraryMissing, LibraryTooLong, LibraryLine}

-- What a shelf holds: the content under a name, or nothing.
abbrev pub Holdings : Type 0
Holdings = List ℕ → Option (List ℕ)

-- What a shelf tells of what it holds.
abbrev pub told_by : Bool → Holdings → Option Holdings
told_by true held = Some held
told_by false held = None

abbrev pub line_refusal : ℕ → Option (ℕ × MtlWhy) → Option Refusal
line_refusal k None = None
line_refusal k (Some fault) = Some (LibraryLine k fault.0 fault.1)

-- What refuses library k, which is read after the libraries `before`: it isn't held, it has more bytes than a library may,
-- or its first faulty line.
abbrev pub library_refusal : ℕ → List (List ℕ) → Option (List ℕ) → Option Refusal
library_refusal k before None = Some (LibraryMissing k)
library_refusal k before (Some content) =
    if nat_lt MAX_BYTES (length content) then Some (LibraryTooLong k) else line_refusal k (library_fault before content)

abbrev pub or_later : Option Refusal → Option Refusal → Option Refusal
or_later None later = later
or_later (Some refusal) later = Some refusal

abbrev pub with_content : List (List ℕ) → Option (List ℕ) → List (List ℕ)
with_content before None = before
with_content before (Some content) = before ++ content ∷ []

-- The first refusal of the libraries of these names, of which the first has the number k.
abbrev pub refusal_from : Holdings → ℕ → List (List ℕ) → List (List ℕ) → Option Refusal
refusal_from held k before [] = None
refusal_from held k before (name ∷ names) =
    or_later (library_refusal k before (held name)) (refusal_from held (k + 1) (with_content before (held name)) names)

abbrev pub first_refusal : Holdings → List (List ℕ) → Option Refusal
first_refusal held names = refusal_from held 1 [] names

abbrev pub one_and : Option Refusal → ℕ → ℕ
one_and None later = 1 + later
one_and (Some refusal) later = 1

-- How many of the libraries are asked for: up to the first that is refused.
abbrev pub asked_from : Holdings → ℕ → List (List ℕ) → List (List ℕ) → ℕ
asked_from held k before [] = 0
asked_from held k before (name ∷ names) =
    one_and (library_refusal k before (held name)) (asked_from held (k + 1) (with_content before (held name)) names)

abbrev pub asked : Holdings → List (List ℕ) → ℕ
asked held names = asked_from held 1 [] names

-- The contents of the libraries of these names, after others.
abbrev pub contents_from : Holdings → List (List ℕ) → List (List ℕ) → List (List ℕ)
contents_from held before [] = before
contents_from held before (name ∷ names) = contents_from held (with_content before (held name)) names

abbrev pub contents : Holdings → List (List ℕ) → List (List ℕ)
contents held names = contents_from held [] names
