-- What a call leaves in a sink.
use Rattle.std.specs.Prelude.{ℕ, List, Option}

-- What a sink had taken before a call and has taken after it, where it tells, and its counts of faults.
pub record Taken : Type 0 where
  pub old : Option (List ℕ)
  pub new : Option (List ℕ)
  pub faults_old : ℕ
  pub faults_new : ℕ

-- What a sink had taken before a call and has taken after it, from what its trait tells of it.
abbrev pub sink_change : {O : Type 0} → (O → Option (List ℕ)) → (O → ℕ) → O → O → Taken
sink_change taken faults old new = record { old = taken old; new = taken new; faults_old = faults old; faults_new = faults new }
