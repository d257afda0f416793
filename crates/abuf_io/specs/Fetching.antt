-- What a shelf answers.
use Rattle.std.specs.Prelude.{◌≡◌, ◌≤◌, ◌<◌, ℕ, Bool, true, List, ◌==◌, length, min, find, option_map, Option, None, Some, Result, Err, IfOk, IsSomeAnd}
use Rattle.std.specs.Str.{bytes_eq}
use Rattle.std.specs.List.{list_any}
use Rattle.abuf_io.specs.Causes.{Rose, next_count}
use Rattle.abuf_io.specs.declared.outside.Fetch.{Fetch}
use Rattle.abuf_io.specs.declared.outside.Fetch.TheVariants.{Missing, TooLong, Failed}

-- An answer of a shelf that holds this under the name. The clauses leave one another no room: where
-- the shelf tells, `Missing` is the answer where nothing is held, and `TooLong` where the content is
-- longer than the limit, but for `Failed` and `Memory`.
pub record IsFetch (tells : Bool) (held : Option (List ℕ)) (limit : ℕ) (result : Result (List ℕ) Fetch) : Type 0 where
  pub within : IfOk result (λ content. length content ≤ limit)
  pub content : tells ≡ true → IfOk result (λ content. held ≡ Some content)
  pub missing : tells ≡ true → result ≡ Err Missing → held ≡ None
  pub too_long : tells ≡ true → result ≡ Err TooLong → IsSomeAnd held (λ content. limit < length content)

-- the count of faults doesn't fall, and `Failed` comes only where it rose
pub record HasFetchCause (before now : ℕ) (result : Result (List ℕ) Fetch) : Type 0 where
  pub later : before ≤ now
  pub failed : result ≡ Err Failed → Rose before now

-- the count of faults is the number of the calls that answered `Failed`
pub record CountsFailed (before now : ℕ) (result : Result (List ℕ) Fetch) : Type 0 where
  pub failed : result ≡ Err Failed → now ≡ next_count before
  pub others : (result ≡ Err Failed → ⊥) → now ≡ before

-- the content of the first pair with that name
abbrev pub held : List (List ℕ × List ℕ) → List ℕ → Option (List ℕ)
held pairs name = option_map (λ pair. pair.1) (find (λ pair. bytes_eq pair.0 name) pairs)

-- the number of a call, from 0 up to the last number, 4294967295, is in the list
abbrev pub is_listed : List ℕ → ℕ → Bool
is_listed fails calls = list_any (λ number. number == min calls 4294967295) fails
