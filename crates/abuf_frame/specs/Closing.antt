-- What contracts see of a closed frame.
use Rattle.std.specs.Prelude.{◌≡◌, ℕ, zero, suc, ◌+◌, ◌-◌, ◌*◌, ◌<◌, if◌then◌else◌, ◌==◌, List, [], ◌∷◌, ◌++◌, length, map, slice_index, slice_index_or}
use Rattle.std.specs.List.{AllByRecursion, range_with_len}
use Rattle.abuf_frame.specs.declared.view.Walk.{Walk}
use Rattle.abuf_frame.specs.Words.{Sized, head_word, payload_word, next_word}
use Rattle.abuf_frame.specs.Walks.{payload_at}

-- the payloads of each pixel's list, the number of pixels and of nodes, and the number of all entries
pub record Ended : Type 0 where
  pub lists : List (List ℕ)
  pub pixels : ℕ
  pub nodes : ℕ
  pub fragments : ℕ

-- the payloads of a pixel's list
abbrev pub list_at : Ended → ℕ → List ℕ
list_at c p = slice_index_or c.lists p []

-- The payloads of the nodes from the word `at` on, of at most so many nodes. No list has more nodes than its frame.
abbrev pub payloads_from : List ℕ → ℕ → ℕ → ℕ → List ℕ
payloads_from words pixels zero at = []
payloads_from words pixels (suc most) at = if at == 0 then []
    else slice_index words (payload_word pixels (at - 1)) ∷ payloads_from words pixels most (slice_index words (next_word pixels (at - 1)))

-- the lists of so many pixels from p on, each the walk from its head
abbrev pub lists_from : List ℕ → ℕ → ℕ → ℕ → ℕ → List (List ℕ)
lists_from words pixels nodes p count = map (λ q. payloads_from words pixels nodes (slice_index words (head_word q))) (range_with_len p count)

abbrev pub IsSuffix : List ℕ → List ℕ → Type 0
IsSuffix xs ys = (front : List ℕ) × (ys ≡ front ++ xs)

-- each walk that has reached the end has passed a suffix of its pixel's list
abbrev pub AllSeen : List (List ℕ) → List Walk → Type 0
AllSeen lists ws = AllByRecursion (λ w. w.cursor ≡ 0 → IsSuffix (map payload_at w.passed) (slice_index_or lists w.pixel [])) ws

-- the words lead from the word `at` along these nodes to the end
abbrev pub Threaded : List ℕ → ℕ → ℕ → ℕ → List ℕ → Type 0
Threaded words pixels nodes at [] = at ≡ 0
Threaded words pixels nodes at (n ∷ ns) = (at ≡ n + 1) × (n < nodes) × Threaded words pixels nodes (slice_index words (next_word pixels n)) ns

-- what a closed frame keeps of its words: from each head they lead along a list to the end
pub record Kept (words : List ℕ) (pixels nodes : ℕ) : Type 0 where
  pub sized : Sized pixels nodes
  pub wide : length words ≡ 1 + pixels + 2 * nodes
  pub chain : ℕ → List ℕ
  pub threaded : (p : ℕ) → p < pixels → Threaded words pixels nodes (slice_index words (head_word p)) (chain p)
