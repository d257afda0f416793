-- The material that is open in the reader.
use Rattle.std.specs.Prelude.{◌≡◌, ◌<◌, [], ℕ, List, length, Option, Some, slice_index_or}
use Rattle.abuf_text.specs.Names.{index_of}

-- what stands at the open index is the name that has its index there
abbrev pub IsOpen : List (List ℕ) → Option ℕ → Type 0
IsOpen names begun = (k : ℕ) → begun ≡ Some k → (k < length names) × (index_of (slice_index_or names k []) names ≡ Some k)
