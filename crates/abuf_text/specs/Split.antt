-- The lines that `bstr` cuts, each with its line feed, and the same without it.
use Rattle.std.specs.Prelude.{ℕ, List, map}
use Rattle.bstr.specs.Records.{trim_record}

-- each line without its line feed
abbrev pub trimmed : List (List ℕ) → List (List ℕ)
trimmed lines = map (trim_record 10) lines
