-- One step of the walks along the lists of eight neighbouring pixels. Each walk has a lane: the word at which it stands, and the
-- list of the payloads that it has passed.
use Rattle.std.specs.Prelude.{◌≡◌, ℕ, ◌+◌, ◌-◌, ◌*◌, ◌<◌, ◌≤◌, if◌then◌else◌, ◌==◌, nat_lt, List, [], ◌++◌, length, slice_index, slice_index_or}
use Rattle.abuf_num.specs.declared.limits.TheConstants.{MAX_NODES}
use Rattle.abuf_frame.specs.Closing.{payloads_from}
use Rattle.abuf_frame.specs.Words.{head_word, next_word}

-- the head of the pixel, and 0 past the last pixel
abbrev pub head_or_end : List ℕ → ℕ → ℕ → ℕ
head_or_end words pixels p = if nat_lt p pixels then slice_index words (head_word p) else 0

-- the word is 0, or refers to a node that the words have; no frame has more than MAX_NODES
abbrev pub Refers : List ℕ → ℕ → ℕ → Type 0
Refers words pixels at = (at ≤ MAX_NODES) × (pixels + 2 * at < length words)

-- the next of the node to which the word refers, and 0 at the end
abbrev pub next_from : List ℕ → ℕ → ℕ → ℕ
next_from words pixels at = if at == 0 then 0 else slice_index words (next_word pixels (at - 1))

-- The walk stood at the word `at` with the payloads `old`. It has passed one more node, unless it was at the end, and stands
-- at the word `next` with the payloads `new`.
pub record Advances (words : List ℕ) (pixels at next : ℕ) (old new : List ℕ) : Type 0 where
  pub next_is : next ≡ next_from words pixels at
  pub new_is : new ≡ old ++ payloads_from words pixels 1 at

-- the walk in each of the eight lanes has
abbrev pub AllAdvance : List ℕ → ℕ → List ℕ → List ℕ → List (List ℕ) → List (List ℕ) → Type 0
AllAdvance words pixels at next old new = (k : ℕ) → k < 8
    → Advances words pixels (slice_index at k) (slice_index next k) (slice_index_or old k []) (slice_index_or new k [])
