-- How many bytes a reading of all of a source takes.
use Rattle.std.specs.Prelude.{◌≡◌, ◌≤◌, ◌+◌, ℕ, List, length, Option, Result, Ok, Err}
use Rattle.std.specs.Io.KnownBytes.{Consumes}
use Rattle.abuf_io.specs.declared.whole.ReadEnd.{ReadEnd}
use Rattle.abuf_io.specs.declared.whole.ReadEnd.TheVariants.{ReadFault, TooLong, Memory}

-- Under this limit it gives up after n bytes. They are limit + 1 exactly where the answer is
-- `TooLong`; memory may run out at any number.
abbrev pub StopsAfter : ReadEnd → ℕ → ℕ → Type 0
StopsAfter ReadFault limit n = n ≤ limit
StopsAfter TooLong limit n = n ≡ limit + 1
StopsAfter Memory limit n = n ≤ limit + 1

-- under this limit it takes n bytes
abbrev pub TakesCount : {T : Type 0} → ℕ → Result T ReadEnd → ℕ → Type 0
TakesCount limit (Ok _) n = n ≤ limit
TakesCount limit (Err why) n = StopsAfter why limit n

-- so many of the bytes that the source tells are taken
abbrev pub ReadsUpTo : {T : Type 0} → ℕ → Option (List ℕ) → Option (List ℕ) → Result T ReadEnd → Type 0
ReadsUpTo limit old new result = (taken : List ℕ) × Consumes old new taken × TakesCount limit result (length taken)
