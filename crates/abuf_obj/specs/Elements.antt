-- The elements of an `f` line: a point's index, and optionally `/` and a texture's index, and `/` and
-- a normal's, of which only the point's is used.
use Rattle.std.specs.Prelude.{◌==◌, ◌&&◌, ◌||◌, ◌+◌, ◌*◌, ◌-◌, ℕ, Bool, nat_le, nat_lt, true, List, [], ◌∷◌, length, take, drop, position, is_some, Option, Some, None, option_and_then, if◌then◌else◌}
use Rattle.abuf_num.specs.Decimal.{is_negative}

-- the byte is a decimal digit
abbrev pub is_digit : ℕ → Bool
is_digit b = nat_le 48 b && nat_le b 57

-- the number that digits spell, behind a number that stands before them
abbrev pub spelled_from : ℕ → List ℕ → Option ℕ
spelled_from n [] = Some n
spelled_from n (b ∷ rest) = if is_digit b then spelled_from (10 * n + (b - 48)) rest else None

-- the number that one to ten digits spell
abbrev pub spelled : List ℕ → Option ℕ
spelled text = if nat_lt 0 (length text) && nat_le (length text) 10 then spelled_from 0 text else None

abbrev pub without_minus : List ℕ → List ℕ
without_minus text = if is_negative text then drop 1 text else text

abbrev pub is_slash : ℕ → Bool
is_slash b = b == 47

abbrev pub up_to : Option ℕ → List ℕ → List ℕ
up_to None text = text
up_to (Some k) text = take k text

abbrev pub behind : Option ℕ → List ℕ → Option (List ℕ)
behind None text = None
behind (Some k) text = Some (drop (k + 1) text)

-- what stands before the first slash
abbrev pub before_slash : List ℕ → List ℕ
before_slash text = up_to (position is_slash text) text

-- what stands behind the first slash, if there is one
abbrev pub after_slash : List ℕ → Option (List ℕ)
after_slash text = behind (position is_slash text) text

-- nothing, or an index of any value
abbrev pub is_unused_index : List ℕ → Bool
is_unused_index text = length text == 0 || is_some (spelled (without_minus text))

-- what may stand for a normal
abbrev pub is_normal : Option (List ℕ) → Bool
is_normal None = true
is_normal (Some text) = is_unused_index text

-- what may stand for a texture and a normal
abbrev pub is_texture_and_normal : Option (List ℕ) → Bool
is_texture_and_normal None = true
is_texture_and_normal (Some text) = is_unused_index (before_slash text) && is_normal (after_slash text)

-- a positive index counts from 1
abbrev pub from_first : ℕ → Option ℕ
from_first i = if i == 0 then None else Some (i - 1)

-- an index -i counts back from the last of the points above
abbrev pub from_last : ℕ → ℕ → Option ℕ
from_last above i = if nat_le 1 i && nat_le i above then Some (above - i) else None

-- the vertex from 0 of a point's index, where so many points stand above the line
abbrev pub vertex_of_index : ℕ → List ℕ → Option ℕ
vertex_of_index above text =
    if is_negative text then option_and_then (from_last above) (spelled (drop 1 text)) else option_and_then from_first (spelled text)

-- the vertex of an element
abbrev pub vertex_of : ℕ → List ℕ → Option ℕ
vertex_of above element = if is_texture_and_normal (after_slash element) then vertex_of_index above (before_slash element) else None

abbrev pub put_first : Option ℕ → Option (List ℕ) → Option (List ℕ)
put_first (Some vertex) (Some vertices) = Some (vertex ∷ vertices)
put_first (Some vertex) None = None
put_first None vertices = None

-- the vertices of all elements, if each has one
abbrev pub vertices_of : ℕ → List (List ℕ) → Option (List ℕ)
vertices_of above [] = Some []
vertices_of above (element ∷ elements) = put_first (vertex_of above element) (vertices_of above elements)
