-- What calls for numbers give.
use Rattle.std.specs.Prelude.{◌≡◌, ℕ, ◌+◌, ◌<◌, ◌≤◌, List, [], nat_lt, map, filter, slice_index_or, All, Result, Ok}
use denote.Param.Members.{Shared}
use Rattle.std.specs.Fn.{FnReturns}
use Rattle.abuf_num.specs.Counting.{times}
use Rattle.abuf_num.specs.declared.list.NoMemory.{NoMemory}
use Rattle.abuf_share.specs.declared.desk.TheConstants.{MAX_NUMBERS}
use Rattle.abuf_share.specs.declared.numbered.Done.{Done}
use Rattle.abuf_share.specs.declared.numbered.Entry.{Entry}
use Rattle.abuf_share.specs.Desk.{Stock, TurnState, endowment, holding}

-- a turn of the desk without numbers, which may draw all below the limit and one more
abbrev pub IsFresh : Stock → TurnState → Type 0
IsFresh desk t = (t.table ≡ desk.table) × (t.view ≡ holding (MAX_NUMBERS + 1) [])

-- one of the numbers drawn is at or beyond the limit
pub record HasPassed (limit : ℕ) (drawn : List ℕ) : Type 0 where
  pub number : ℕ
  pub is_beyond : limit ≤ number
  pub taken : 0 < times number drawn

module _ {X : Type 0} where
  -- the number of an entry
  abbrev pub number_of : Entry X → ℕ
  number_of e = e.number

  -- the value of an entry
  abbrev pub value_of : Entry X → X
  value_of e = e.value

module _ {F X : Type 0} (g : Shared F (ℕ × Unit {0}) (Result X NoMemory)) (f : F) where
  -- Below n, each element of xs is what a call of f with its place may give. The equation shows `grind` the term at which to use the
  -- rest, as in std's `GivesEach`.
  abbrev pub GivesEachOk : ℕ → List X → Type 0
  GivesEachOk n xs = (i : ℕ) (d : X) → i < n → (slice_index_or xs i d ≡ slice_index_or xs i d) × FnReturns g f (i, tt) (Ok (slice_index_or xs i d))

  -- the entry's value is what a call of f with its number may give
  abbrev pub IsGiven : Entry X → Type 0
  IsGiven e = FnReturns g f (e.number, tt) (Ok e.value)

  -- There is an entry for each number drawn that is below the limit, in the order in which they were drawn.
  pub record AreOf (limit : ℕ) (drawn : List ℕ) (es : List (Entry X)) : Type 0 where
    pub numbers : map number_of es ≡ filter (λ n. nat_lt n limit) drawn
    pub given : All IsGiven es

  -- A worker whose turn was fresh has drawn numbers to the end and called f for each.
  pub record HasCalled (desk : Stock) (d : Done X) : Type 0 where
    pub of_desk : d.turn.table ≡ desk.table
    pub whole : endowment d.turn.view ≡ MAX_NUMBERS + 1
    pub passed : HasPassed desk.limit d.turn.view.drawn
    pub are : AreOf desk.limit d.turn.view.drawn d.entries.items
