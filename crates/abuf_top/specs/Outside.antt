-- What a run finds outside and what it leaves there: the source of its scene, the shelf, and the sinks of its output and of
-- its messages.
use Rattle.std.specs.Prelude.{◌⊎◌, Bool, ℕ, List, Option}
use Rattle.abuf_io.specs.Causes.{Rose}
use Rattle.abuf_io.specs.Sinks.{Taken}
use Rattle.abuf_top.specs.Libraries.{Holdings, told_by}

-- The bytes that a source had left before the run and has left after it, where it tells, and its counts of faults.
pub record SourceChange : Type 0 where
  pub left_old : Option (List ℕ)
  pub left_new : Option (List ℕ)
  pub faults_old : ℕ
  pub faults_new : ℕ

-- What a shelf holds, and whether it tells; its counts of calls and of faults before the run and after it.
pub record ShelfChange : Type 0 where
  pub tells : Bool
  pub holds : Holdings
  pub calls_old : ℕ
  pub calls_new : ℕ
  pub faults_old : ℕ
  pub faults_new : ℕ

-- What a run finds outside and leaves there. The sinks are of its output and of its messages.
pub record Outside : Type 0 where
  pub source : SourceChange
  pub shelf : ShelfChange
  pub out : Taken
  pub err : Taken

-- The records of a source and a shelf before and after, from what they tell.
abbrev pub source_change : {S : Type 0} → (S → Option (List ℕ)) → (S → ℕ) → S → S → SourceChange
source_change left faults old new = record { left_old = left old; left_new = left new; faults_old = faults old; faults_new = faults new }

abbrev pub shelf_change : {H : Type 0} → (H → Bool) → (H → Holdings) → (H → ℕ) → (H → ℕ) → H → H → ShelfChange
shelf_change tells holds calls faults old new = record {
  tells = tells old;
  holds = holds old;
  calls_old = calls old;
  calls_new = calls new;
  faults_old = faults old;
  faults_new = faults new;
}

-- What a shelf tells of what it holds.
abbrev pub told : ShelfChange → Option Holdings
told shelf = told_by shelf.tells shelf.holds

-- A count of faults of reading rose.
abbrev pub ReadFailed : SourceChange → ShelfChange → Type 0
ReadFailed source shelf = Rose source.faults_old source.faults_new ⊎ Rose shelf.faults_old shelf.faults_new

-- A count of faults of writing rose.
abbrev pub Failed : Taken → Type 0
Failed sink = Rose sink.faults_old sink.faults_new
