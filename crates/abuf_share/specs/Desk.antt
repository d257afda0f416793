-- When the state of a desk is lawful, and what its calls tell. A state has the desk's one word, which is the count of the
-- numbers drawn, and the views of all turns that were ever made.
use Rattle.std.specs.Prelude.{◌≡◌, ℕ, ◌+◌, ◌-◌, ◌^◌, ◌<◌, ◌≤◌, List, [], ◌∷◌, ◌++◌, length, sum_by, slice_index, All, Option, MatchOption}
use Rattle.atomic_table.specs.Table.{Splits, State}
use Rattle.atomic_table.specs.Seated.{TableId}
use Rattle.atomic_table.specs.declared.shared.Seat.{Seat}
use Rattle.abuf_num.specs.Counting.{times, below}
use Rattle.abuf_share.specs.declared.rule.TurnView.{TurnView}

-- what contracts see of a desk: its table, by which desks are told apart, and its limit
pub record Stock : Type 0 where
  pub table : TableId
  pub limit : ℕ

-- what contracts see of a turn: the table of its desk, and what it knows
pub record TurnState : Type 0 where
  pub table : TableId
  pub view : TurnView

-- so much credit, and these numbers
abbrev pub holding : ℕ → List ℕ → TurnView
holding credit drawn = record { credit = credit; drawn = drawn }

-- the turn that `start` gives
abbrev pub whole_view : TurnView
whole_view = holding (2 ^ 60) []

-- how many numbers a turn has drawn and may still draw
abbrev pub endowment : TurnView → ℕ
endowment v = v.credit + length v.drawn

-- less so much credit, which a turn that is split off has
abbrev pub with_less : ℕ → TurnView → TurnView
with_less credit v = holding (v.credit - credit) v.drawn

-- after a number was drawn
abbrev pub drawing : ℕ → TurnView → TurnView
drawing number v = holding (v.credit - 1) (v.drawn ++ number ∷ [])

-- after a join: credits and numbers are added
abbrev pub united : TurnView → TurnView → TurnView
united v w = holding (v.credit + w.credit) (v.drawn ++ w.drawn)

-- This holds between any two atomic steps. The numbers drawn by all turns are those below the count, each once, and the
-- endowments of all turns add up to 2 ^ 60.
pub record Lawful (s : State (Unit {0}) TurnView) : Type 0 where
  pub wide : length s.words ≡ 1
  pub once : (n : ℕ) → sum_by (λ v. times n v.drawn) s.views ≡ below n (slice_index s.words 0)
  pub counted : sum_by (λ v. length v.drawn) s.views ≡ slice_index s.words 0
  pub endowed : sum_by endowment s.views ≡ 2 ^ 60

-- a turn with the whole endowment has the numbers from 0 to one below their count, each once
abbrev pub EachOnceIfWhole : TurnView → Type 0
EachOnceIfWhole v = endowment v ≡ 2 ^ 60 → (n : ℕ) → times n v.drawn ≡ below n (length v.drawn)

-- what a turn learns where it draws a number: the number is above each that it had
abbrev pub Shown : ℕ → TurnView → Type 0
Shown number v = All (λ n. n < number) v.drawn × EachOnceIfWhole (drawing number v)

-- From v to w a turn has drawn a number above each that it had. It is below the limit, and the call gives it, or it is at or
-- beyond the limit, and the call gives none.
abbrev pub HasTaken : ℕ → Option ℕ → TurnView → TurnView → Type 0
HasTaken limit part v w =
    (number : ℕ) × (w ≡ drawing number v) × All (λ n. n < number) v.drawn × MatchOption part (limit ≤ number) (λ p. (p ≡ number) × (number < limit))

-- The seat is one of the desk's table, and so much credit may be split off from it.
abbrev pub MaySplit : TableId → Seat (Unit {0}) TurnView → ℕ → Type 0
MaySplit table seat credit =
    (seat.table_id ≡ table) × (0 < table.words) × Splits Lawful seat.id seat.me.0 (with_less credit seat.me.0) (holding credit [])
