-- The lists of a closed frame, read for one pixel after another.
use Rattle.std.specs.Prelude.{◌≡◌, ℕ, ◌+◌, ◌-◌, ◌<◌, if◌then◌else◌, nat_lt, List, [], slice_index_or}
use Rattle.abuf_frame.specs.Closing.{Ended, list_at}

-- the frame that is read, and the list that was read last
pub record Reading : Type 0 where
  pub frame : Ended
  pub list : List ℕ

-- the lists are those of the eight pixels from this one on; past the last pixel they are empty
abbrev pub HoldsEight : Ended → ℕ → List (List ℕ) → Type 0
HoldsEight frame first lists = (k : ℕ) → k < 8 → slice_index_or lists k [] ≡ list_at frame (first + k)

-- the list in a lane: eight lanes have lists, and the next eight have others
abbrev pub list_in : List (List ℕ) → List (List ℕ) → ℕ → List ℕ
list_in lists others lane = if nat_lt lane 8 then slice_index_or lists lane [] else slice_index_or others (lane - 8) []
