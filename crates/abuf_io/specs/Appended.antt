-- What a write leaves in a writer that holds known bytes.
use Rattle.std.specs.Prelude.{ℕ, List, take, Option}
use Rattle.std.specs.Io.KnownBytes.{Appends}

-- known bytes grow by some of these, from the front
abbrev pub AppendsPart : Option (List ℕ) → Option (List ℕ) → List ℕ → Type 0
AppendsPart old new bytes = (count : ℕ) × Appends old new (take count bytes)
