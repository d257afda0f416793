-- What a call does that reads: a scene from the source, and its libraries or a path from the shelf.
use Rattle.std.specs.Prelude.{◌≡◌, ◌≤◌, ◌+◌, ℕ, List, length, Option, IfSome, IfOk, IfErr, Result}
use Rattle.std.specs.Io.KnownBytes.{Consumes}
use Rattle.abuf_num.specs.declared.limits.TheConstants.{MAX_BYTES}
use Rattle.abuf_io.specs.Causes.{Rose}
use Rattle.abuf_obj.specs.Sound.{IsScene}
use Rattle.abuf_scene.specs.declared.triangles.Triangle.{Triangle}
use Rattle.abuf_cli.specs.Job.{Job}
use Rattle.abuf_cli.specs.declared.job.WordFault.{WordFault}
use Rattle.abuf_top.specs.Fetches.{CallsAtMost, Demand}
use Rattle.abuf_top.specs.Libraries.{Holdings}
use Rattle.abuf_top.specs.Outside.{SourceChange, ShelfChange, told, ReadFailed}
use Rattle.abuf_top.specs.Prepared.{Gives, Loads, IsTaskOf}
use Rattle.abuf_top.specs.Stopped.{HasReadCause, HasCause, StopsByPath}
use Rattle.abuf_top.specs.declared.loaded.Loaded.{Loaded}
use Rattle.abuf_top.specs.declared.stop.Refusal.{Refusal}
use Rattle.abuf_top.specs.declared.stop.Stop.{Stop}
use Rattle.abuf_top.specs.declared.task.Task.{Task}

-- A call that reads from the shelf alone answers as the verdict says on what the shelf holds, where that is told.
abbrev pub AnswersAsHeld : {T : Type 0} → (Option Holdings → Option T) → (T → Type 0 → Type 0) → ShelfChange → Type 0
AnswersAsHeld verdict answers shelf = IfSome (verdict (told shelf)) (λ v. answers v (Rose shelf.faults_old shelf.faults_new))

-- The call calls the shelf at most so often, where that is told.
abbrev pub CallsHeld : (Option Holdings → Option ℕ) → ShelfChange → Type 0
CallsHeld fetches shelf = IfSome (fetches (told shelf)) (CallsAtMost shelf.calls_old shelf.calls_new shelf.faults_old shelf.faults_new)

-- The call doesn't call the source.
abbrev pub IsUncalled : SourceChange → Type 0
IsUncalled source = (source.left_new ≡ source.left_old) × (source.faults_new ≡ source.faults_old)

-- The call takes at most so many bytes from the source, from the front of what that has left, where that is told.
abbrev pub TakesAtMost : ℕ → SourceChange → Type 0
TakesAtMost most source = (taken : List ℕ) × Consumes source.left_old source.left_new taken × (length taken ≤ most)

-- How a call reads. `source`: when the source isn't called. `taken`: at most one byte more is taken from it than the longest scene has,
-- whatever becomes of the call. `calls`: how often the shelf is called, where what that hangs on is told, and `most`: how often at most,
-- where the source alone tells.
pub record Calls (demand : Demand) (from : SourceChange) (by : ShelfChange) : Type 0 where
  pub source : demand.NoSource → IsUncalled from
  pub taken : TakesAtMost (MAX_BYTES + 1) from
  pub calls : IfSome demand.fetches (CallsAtMost by.calls_old by.calls_new by.faults_old by.faults_new)
  pub most : IfSome demand.most (λ n. by.calls_new ≤ by.calls_old + n)

-- A call that loads a scene. It answers as the verdict says on what the source has left and the shelf holds, where that is told.
pub record LoadsBy (verdict : Option (List ℕ) → Option Holdings → Option (Result (List Triangle) Refusal)) (demand : Option (List ℕ) → Option Holdings → Demand)
    (from : SourceChange) (by : ShelfChange) (result : Result Loaded Stop) : Type 0 where
  pub as_told : IfSome (verdict from.left_old (told by)) (λ v. Loads v (ReadFailed from by) result)
  pub cause : IfErr result (HasReadCause (ReadFailed from by))
  pub scene : IfOk result (λ loaded. IsScene loaded.obj)
  pub calls : Calls (demand from.left_old (told by)) from by

-- A call that reads all that a task of these words needs. Where a path is refused, the source isn't called, whatever is told.
pub record PreparesBy (verdict : Option (List ℕ) → Option Holdings → Option (Result Task Refusal)) (demand : Option (List ℕ) → Option Holdings → Demand)
    (words : Result Job WordFault) (from : SourceChange) (by : ShelfChange) (result : Result Task Stop) : Type 0 where
  pub as_told : IfSome (verdict from.left_old (told by)) (λ v. Gives v (ReadFailed from by) result)
  pub cause : IfErr result (HasCause words (ReadFailed from by))
  pub path : IfErr result (λ stop. StopsByPath stop → IsUncalled from)
  pub words_own : IfOk result (IsTaskOf words)
  pub calls : Calls (demand from.left_old (told by)) from by
