-- How many bytes are taken from a source.
use Rattle.std.proofs.Common.{◌≤◌, ◌+◌, ℕ, List, [], length, Option, Result, Err, arith}
use Rattle.std.specs.Io.KnownBytes.{Consumes}
use Rattle.std.proofs.KnownBytes.{Consumes-nil}
use Rattle.abuf_io.specs.Whole.{ReadsUpTo, TakesCount}
use Rattle.abuf_io.specs.declared.whole.ReadEnd.{ReadEnd}
use Rattle.abuf_io.specs.declared.whole.ReadEnd.TheVariants.{Memory}

-- A reading of all takes at most one byte more than its limit, whatever its answer,
counted : {T : Type 0} (limit n : ℕ) (r : Result T ReadEnd) → TakesCount limit r n → n ≤ limit + 1
counted limit n (Err Memory) h = h
counted limit n _ h = omega (arith, h)

pub takes : {T : Type 0} (limit : ℕ) (old new : Option (List ℕ)) (r : Result T ReadEnd) → ReadsUpTo limit old new r
    → (taken : List ℕ) × Consumes old new taken × (length taken ≤ limit + 1)
takes limit old new r h = (h.0, h.1, counted limit (length h.0) r h.2)

-- and a source that is as it was gave none.
pub takes_none : (most : ℕ) (left : Option (List ℕ)) → (taken : List ℕ) × Consumes left left taken × (length taken ≤ most)
takes_none most left = ([], Consumes-nil left, omega arith)
