-- How a run stops, and when.
use Rattle.std.specs.Prelude.{◌≡◌, Option, Some, Result, Ok, Err, IsOk}
use Rattle.abuf_cli.specs.Job.{Job}
use Rattle.abuf_cli.specs.declared.job.WordFault.{WordFault}
use Rattle.abuf_top.specs.declared.stop.Refusal.{Refusal}
use Rattle.abuf_top.specs.declared.stop.Refusal.TheVariants as refusal
use Rattle.abuf_top.specs.declared.stop.Stop.{Stop}
use Rattle.abuf_top.specs.declared.stop.Stop.TheVariants as stop

-- By the first refusal, by a fault of reading, which comes only where a count rose, or because memory runs out.
abbrev pub StoppedBy : Option Refusal → Type 0 → Stop → Type 0
StoppedBy first rose (stop.Refused r) = first ≡ Some r
StoppedBy first rose (stop.PoolFull pool) = ⊥
StoppedBy first rose stop.ReadFault = rose
StoppedBy first rose stop.WriteFault = ⊥
StoppedBy first rose stop.Memory = Unit {0}

-- A refusal of the words, and one of what is read after them.
abbrev pub IsOfWords : Refusal → Type 0
IsOfWords refusal.Words = Unit {0}
IsOfWords (refusal.Value option) = Unit {0}
IsOfWords _ = ⊥

abbrev pub IsAfterWords : Refusal → Type 0
IsAfterWords refusal.Words = ⊥
IsAfterWords (refusal.Value option) = ⊥
IsAfterWords _ = Unit {0}

-- One of the path of a sequence, and one of the scene or a library.
abbrev pub IsOfPath : Refusal → Type 0
IsOfPath refusal.PathMissing = Unit {0}
IsOfPath refusal.PathTooLong = Unit {0}
IsOfPath (refusal.PathLine line why) = Unit {0}
IsOfPath _ = ⊥

abbrev pub IsOfScene : Refusal → Type 0
IsOfScene refusal.Words = ⊥
IsOfScene (refusal.Value option) = ⊥
IsOfScene refusal.PathMissing = ⊥
IsOfScene refusal.PathTooLong = ⊥
IsOfScene (refusal.PathLine line why) = ⊥
IsOfScene _ = Unit {0}

-- Whatever is told, a scene and its libraries stop a run by a refusal of theirs, and by a fault of reading only where a count rose.
abbrev pub HasReadCause : Type 0 → Stop → Type 0
HasReadCause rose (stop.Refused r) = IsOfScene r
HasReadCause rose (stop.PoolFull pool) = ⊥
HasReadCause rose stop.ReadFault = rose
HasReadCause rose stop.WriteFault = ⊥
HasReadCause rose stop.Memory = Unit {0}

-- The path stops the run.
abbrev pub StopsByPath : Stop → Type 0
StopsByPath (stop.Refused r) = IsOfPath r
StopsByPath _ = ⊥

-- The words refuse where they give no job, and only there.
abbrev pub RefusesFor : Result Job WordFault → Refusal → Type 0
RefusesFor (Ok job) r = IsAfterWords r
RefusesFor (Err why) r = IsOfWords r

abbrev pub HasCause : Result Job WordFault → Type 0 → Stop → Type 0
HasCause words rose (stop.Refused r) = RefusesFor words r
HasCause words rose (stop.PoolFull pool) = ⊥
HasCause words rose stop.ReadFault = rose × IsOk words
HasCause words rose stop.WriteFault = ⊥
HasCause words rose stop.Memory = Unit {0}

-- What may stop a run once it draws.
abbrev pub IsOfDrawing : Stop → Type 0
IsOfDrawing (stop.Refused r) = ⊥
IsOfDrawing stop.ReadFault = ⊥
IsOfDrawing _ = Unit {0}
