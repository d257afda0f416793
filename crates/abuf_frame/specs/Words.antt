-- The words of a frame's table, after the per-pixel linked lists of Yang and others (2010): a counter of the numbers that
-- were claimed, a head for each pixel, and a payload and a next for each node. Node n is the claimed number n. A head or a
-- next is 0 at the end of a list, and n + 1 where it refers to node n.
use Rattle.std.specs.Prelude.{◌≡◌, ℕ, ◌+◌, ◌*◌, ◌<◌, ◌≤◌, List, length, slice_index}
use Rattle.abuf_num.specs.declared.limits.TheConstants.{MAX_NODES, MAX_PIXELS}

-- the next of a node that is not linked yet, 2 ^ 64 - 1, which refers to no node
abbrev pub mark : ℕ
mark = 18446744073709551615

-- the places of the words: the counter stands at 0, then come the heads, and then a payload and a next by turns
abbrev pub head_word : ℕ → ℕ
head_word pixel = 1 + pixel

abbrev pub payload_word : ℕ → ℕ → ℕ
payload_word pixels node = 1 + pixels + 2 * node

abbrev pub next_word : ℕ → ℕ → ℕ
next_word pixels node = 2 + pixels + 2 * node

-- the sizes that a frame may have
abbrev pub Sized : ℕ → ℕ → Type 0
Sized pixels nodes = (1 ≤ pixels) × (pixels ≤ MAX_PIXELS) × (1 ≤ nodes) × (nodes ≤ MAX_NODES)

-- the words at the start: nothing is claimed, every list is empty, no node is linked, and the payloads are 0
abbrev pub IsInitial : ℕ → ℕ → List ℕ → Type 0
IsInitial pixels nodes words = (length words ≡ 1 + pixels + 2 * nodes) × ((i : ℕ) → i < 1 + pixels → slice_index words i ≡ 0)
    × ((n : ℕ) → n < nodes → slice_index words (next_word pixels n) ≡ mark)
    × ((n : ℕ) → n < nodes → slice_index words (payload_word pixels n) ≡ 0)

-- the words of so many nodes at the start
abbrev pub AreInitial : ℕ → List ℕ → Type 0
AreInitial count words = (length words ≡ 2 * count) × ((n : ℕ) → n < count → slice_index words (2 * n) ≡ 0) × ((n : ℕ) → n < count → slice_index words (2 * n + 1) ≡ mark)
