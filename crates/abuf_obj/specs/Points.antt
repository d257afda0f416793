-- The point of a `v` line: three numbers, in units of 1/65536.
use Rattle.std.specs.Prelude.{ℕ, ℤ, List, [], ◌∷◌, Option, Some, None, Result, Ok, Err}
use Rattle.abuf_num.specs.Decimal.{scaled}
use Rattle.abuf_num.specs.declared.decimal.NumFault.{NumFault}

abbrev pub unless_fault : Result ℤ NumFault → Option ℤ
unless_fault (Ok value) = Some value
unless_fault (Err fault) = None

-- the number that a text is, in units of 1/65536
abbrev pub coordinate : List ℕ → Option ℤ
coordinate text = unless_fault (scaled text 65536)

-- the number that the first argument is
abbrev pub first_coordinate : List (List ℕ) → Option ℤ
first_coordinate [] = None
first_coordinate (x ∷ more) = coordinate x

abbrev pub point_from : Option ℤ → Option ℤ → Option ℤ → Option (List ℤ)
point_from (Some x) (Some y) (Some z) = Some (x ∷ y ∷ z ∷ [])
point_from (Some x) (Some y) None = None
point_from (Some x) None z = None
point_from None y z = None

-- the point of the first three arguments; further ones aren't read
abbrev pub point_of : List (List ℕ) → Option (List ℤ)
point_of [] = None
point_of (x ∷ []) = None
point_of (x ∷ y ∷ []) = None
point_of (x ∷ y ∷ z ∷ more) = point_from (coordinate x) (coordinate y) (coordinate z)
