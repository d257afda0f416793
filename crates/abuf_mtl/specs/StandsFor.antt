-- What it means that materials, pairs of a name and its paint, stand for a list of libraries.
use Rattle.std.specs.Prelude.{◌≡◌, ◌++◌, ◌∷◌, [], ℕ, List, map, Option, None}
use Rattle.std.specs.Map.{lookup}
use Rattle.std.specs.Str.{bytes_eq}
use Rattle.abuf_mtl.specs.Fault.{library_fault, names_of}
use Rattle.abuf_mtl.specs.Material.{material}
use Rattle.abuf_num.specs.declared.plain.Paint.{Paint}

-- the paint of a name
abbrev pub find_paint : List ℕ → List (List ℕ × Paint) → Option Paint
find_paint name pairs = lookup (bytes_eq name) pairs

-- libraries that are read after others have no fault
abbrev pub IsSound : List (List ℕ) → List (List ℕ) → Type 0
IsSound earlier [] = Unit {0}
IsSound earlier (library ∷ later) = (library_fault earlier library ≡ None) × IsSound (earlier ++ library ∷ []) later

-- no library has a fault, the names are those of the libraries, and each has the paint of its last material
pub record StandsFor (libraries : List (List ℕ)) (pairs : List (List ℕ × Paint)) : Type 0 where
  pub sound : IsSound [] libraries
  pub names : map (λ pair. pair.0) pairs ≡ names_of libraries
  pub paints : (name : List ℕ) → find_paint name pairs ≡ material libraries name

-- they stand for some list of libraries
unfoldable pub StandForSome : List (List ℕ × Paint) → Type 0
StandForSome pairs = (libraries : List (List ℕ)) × StandsFor libraries pairs
