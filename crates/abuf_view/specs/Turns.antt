-- A turn written as the texts of its four components.
use Rattle.std.specs.Prelude.{ℕ, ℤ, pos, ◌&&◌, nat_le, List, [], ◌∷◌, unsigned_abs, Option, Some, None, if◌then◌else◌}
use Rattle.std.specs.Ordering.{int_eq}
use Rattle.abuf_num.specs.Texts.{signed_number}

-- A number from -1024 to 1024.
abbrev pub small_component : Option ℤ → Option ℤ
small_component None = None
small_component (Some z) = if nat_le (unsigned_abs z) 1024 then Some z else None

-- A component of a turn: an optional `-` and one to four digits, from -1024 to 1024.
abbrev pub turn_component : List ℕ → Option ℤ
turn_component text = small_component (signed_number text)

-- A quaternion whose components are not all 0.
abbrev pub some_turn : ℤ → ℤ → ℤ → ℤ → Option (List ℤ)
some_turn a b c d =
    if int_eq a (pos 0) && (int_eq b (pos 0) && (int_eq c (pos 0) && int_eq d (pos 0))) then None
    else Some (a ∷ b ∷ c ∷ d ∷ [])

-- The quaternion of four components, where all are numbers within their range.
abbrev pub turn_from : Option ℤ → Option ℤ → Option ℤ → Option ℤ → Option (List ℤ)
turn_from None b c d = None
turn_from (Some a) None c d = None
turn_from (Some a) (Some b) None d = None
turn_from (Some a) (Some b) (Some c) None = None
turn_from (Some a) (Some b) (Some c) (Some d) = some_turn a b c d
