-- How long the lists of pixels are.
use Rattle.std.specs.Prelude.{ℕ, max, List, [], ◌∷◌, map, length, slice_index_or}

-- The greatest of the numbers; 0, where there is none.
abbrev pub maximum : List ℕ → ℕ
maximum [] = 0
maximum (n ∷ ns) = max n (maximum ns)

-- The lengths of the lists at these places.
abbrev pub lengths_at : List (List ℕ) → List ℕ → List ℕ
lengths_at lists places = map (λ place. length (slice_index_or lists place [])) places
