-- Names, each once, in the order of their first appearance.
use Rattle.std.specs.Prelude.{◌≡◌, ◌<◌, None, take, length, slice_index_or, ℕ, List, [], ◌∷◌, ◌++◌, position, fold, Option, is_some, if◌then◌else◌}
use Rattle.std.specs.Str.{bytes_eq}

-- the index of a name in a list of names, from 0
abbrev pub index_of : List ℕ → List (List ℕ) → Option ℕ
index_of name names = position (bytes_eq name) names

-- a search by name gives the index of each name
abbrev pub FindsIndices : (List ℕ → Option ℕ) → List (List ℕ) → Type 0
FindsIndices find names = (name : List ℕ) → find name ≡ index_of name names

-- the names and one more, if it is new
abbrev pub with_name : List (List ℕ) → List ℕ → List (List ℕ)
with_name names name = if is_some (index_of name names) then names else names ++ name ∷ []

-- the names and further ones, each at its first appearance
abbrev pub with_names : List (List ℕ) → List (List ℕ) → List (List ℕ)
with_names = fold with_name

-- no name stands before itself
abbrev pub IsEachOnce : List (List ℕ) → Type 0
IsEachOnce names = (i : ℕ) → i < length names → index_of (slice_index_or names i []) (take i names) ≡ None
