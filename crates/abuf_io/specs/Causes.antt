-- How often the outside failed: a count that a call raises where it fails.
use Rattle.std.specs.Prelude.{◌≡◌, ◌≤◌, ◌+◌, ◌-◌, ◌^◌, ℕ, min, OnErr, MatchResult, Result}

-- one more, up to the last value, 2 ^ 64 - 1, at which a count stays
abbrev pub next_count : ℕ → ℕ
next_count count = min (count + 1) (2 ^ 64 - 1)

-- a count is greater than it was, or stands at its last value
abbrev pub Rose : ℕ → ℕ → Type 0
Rose before now = next_count before ≤ now

-- a count doesn't fall, and an `Err` comes only where it rose
pub record HasCause {T E : Type 0} (before now : ℕ) (result : Result T E) : Type 0 where
  pub later : before ≤ now
  pub failed : OnErr result (Rose before now)

-- the count is the number of the calls that failed
abbrev pub CountsFailures : {T E : Type 0} → ℕ → ℕ → Result T E → Type 0
CountsFailures before now result = MatchResult result (λ _. now ≡ before) (λ _. now ≡ next_count before)
