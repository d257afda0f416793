-- The words at the start, laid out a row of nodes at a time.
use Rattle.std.proofs.Common.{◌≡◌, ℕ, ◌+◌, ◌-◌, ◌*◌, ◌<◌, ◌≤◌, List, ◌++◌, length, take, ap, ◌∙◌, arith, ⊎_elim, slice_index}
use Rattle.std.proofs.lemmas.List.{get_or_append_left, get_or-append_right, get_or-take, length-append, length-take-le}
use Rattle.std.proofs.lemmas.Bool.{cases_lt}
use Rattle.abuf_frame.specs.Words.{AreInitial, IsInitial, next_word, payload_word}

module _ (ws row : List ℕ) (size : ℕ) (is : length ws ≡ size) where
  -- a word before the row, and one in it
  before : (i : ℕ) → i < size → slice_index (ws ++ row) i ≡ slice_index ws i
  before i l = get_or_append_left ws row 0 i (omega arith)

  -- An element past the first list is one of the second.
  within : (i j : ℕ) → i ≡ size + j → slice_index (ws ++ row) i ≡ slice_index row j
  within i j e = let k : i - size ≡ j = omega arith in get_or-append_right ws row size i 0 is (omega arith) ∙ ap (λ n. slice_index row n) k

-- a row of nodes after those that are there
pub initial_more : (pixels n m : ℕ) (ws row : List ℕ) → IsInitial pixels n ws → AreInitial m row → IsInitial pixels (n + m) (ws ++ row)
initial_more pixels n m ws row b r = let size : ℕ = 1 + pixels + 2 * n in let is = b.0 in let long = r.0 in (
  length-append ws row ∙ omega arith,
  λ i l. before ws row size is i (omega arith) ∙ b.1 i l,
  λ k l. ⊎_elim (λ (h : k < n). before ws row size is (next_word pixels k) (omega arith) ∙ b.2 k h)
      (λ (h : n ≤ k). within ws row size is (next_word pixels k) (2 * (k - n) + 1) (omega arith) ∙ r.2 (k - n) (omega arith)) (cases_lt k n),
  λ k l. ⊎_elim (λ (h : k < n). before ws row size is (payload_word pixels k) (omega arith) ∙ b.3 k h)
      (λ (h : n ≤ k). within ws row size is (payload_word pixels k) (2 * (k - n)) (omega arith) ∙ r.1 (k - n) (omega arith)) (cases_lt k n),
)

-- the first nodes of a row
pub initial_first : (m most : ℕ) (row : List ℕ) → m ≤ most → AreInitial most row → AreInitial m (take (2 * m) row)
initial_first m most row l r = let long = r.0 in (
  length-take-le (2 * m) row (omega arith),
  λ k b. get_or-take (2 * m) row (2 * k) 0 (omega arith) ∙ r.1 k (omega arith),
  λ k b. get_or-take (2 * m) row (2 * k + 1) 0 (omega arith) ∙ r.2 k (omega arith),
)
