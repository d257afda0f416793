-- The plan of a source or a sink over memory: what each of its calls lets through.
use Rattle.std.specs.Prelude.{◌≡◌, Bool, true, nat_lt, ℕ, List, min, Option, Some, None}
use Rattle.std.specs.List.{list_all}
use Rattle.abuf_io.specs.declared.plan.Step.{Step}
use Rattle.abuf_io.specs.declared.plan.Step.TheVariants.{Take, Fail}

-- How many of n bytes a step lets through. After the plan there is no step, and all go through.
abbrev pub let_through : Option Step → ℕ → ℕ
let_through (Some (Take most)) n = min most n
let_through (Some Fail) n = 0
let_through None n = n

-- the step isn't `Take` of none
abbrev pub lets_some : Step → Bool
lets_some (Take most) = nat_lt 0 most
lets_some Fail = true

-- each `Take` has a number of at least 1
abbrev pub IsPlan : List Step → Type 0
IsPlan plan = list_all lets_some plan ≡ true
