-- What the work before the drawing gives, or how the run stops.
use Rattle.std.specs.Prelude.{◌≡◌, ℕ, List, Result, Ok, Err}
use Rattle.abuf_mtl.specs.StandsFor.{StandsFor}
use Rattle.abuf_scene.specs.declared.triangles.Triangle.{Triangle}
use Rattle.abuf_sequence.specs.declared.plan.Plan.{Plan}
use Rattle.abuf_cli.specs.Job.{Job}
use Rattle.abuf_cli.specs.declared.job.Command.{Command}
use Rattle.abuf_cli.specs.declared.job.Command.TheVariants as command
use Rattle.abuf_cli.specs.declared.job.WordFault.{WordFault}
use Rattle.abuf_top.specs.Images.{plan_of}
use Rattle.abuf_top.specs.Verdict.{material_verdict}
use Rattle.abuf_top.specs.declared.loaded.Loaded.{Loaded}
use Rattle.abuf_top.specs.declared.task.Task.{Task}
use Rattle.abuf_top.specs.declared.task.Task.TheVariants.{Draw, Sequence}
use Rattle.abuf_top.specs.declared.stop.Refusal.{Refusal}
use Rattle.abuf_top.specs.declared.stop.Stop.{Stop}
use Rattle.abuf_top.specs.declared.stop.Stop.TheVariants as stop

-- By the first refusal, by a fault of reading, which comes only where a count rose, or because memory runs out.
abbrev pub StopsAt : {T : Type 0} → Result T Refusal → Type 0 → Stop → Type 0
StopsAt verdict rose (stop.Refused r) = verdict ≡ Err r
StopsAt verdict rose (stop.PoolFull pool) = ⊥
StopsAt verdict rose stop.ReadFault = rose
StopsAt verdict rose stop.WriteFault = ⊥
StopsAt verdict rose stop.Memory = Unit {0}

-- A scene that is loaded has libraries for which its materials stand; its faces may still name one that they don't have.
abbrev pub Loads : Result (List Triangle) Refusal → Type 0 → Result Loaded Stop → Type 0
Loads verdict rose (Ok loaded) = (libraries : List (List ℕ)) × StandsFor libraries loaded.materials × (verdict ≡ material_verdict loaded.obj libraries)
Loads verdict rose (Err stop) = StopsAt verdict rose stop

-- What is to be given, or how the run stops.
abbrev pub Gives : {T : Type 0} → Result T Refusal → Type 0 → Result T Stop → Type 0
Gives verdict rose (Ok t) = verdict ≡ Ok t
Gives verdict rose (Err stop) = StopsAt verdict rose stop

-- A command that draws more than once.
abbrev pub IsSequence : Command → Type 0
IsSequence (command.Draw what) = ⊥
IsSequence (command.Sequence name) = Unit {0}

-- The words ask for a sequence.
abbrev pub AskForSequence : Result Job WordFault → Type 0
AskForSequence (Ok job) = IsSequence job.command
AskForSequence (Err why) = ⊥

-- The plan is that of the words' job.
abbrev pub IsPlanOf : Result Job WordFault → Plan → Type 0
IsPlanOf (Ok job) plan = plan ≡ plan_of job
IsPlanOf (Err why) plan = ⊥

-- What is to be done is the words' own: one drawing of their job, or images after its plan.
abbrev pub IsTaskOf : Result Job WordFault → Task → Type 0
IsTaskOf words (Draw d) = (words ≡ Ok d.job) × (d.job.command ≡ command.Draw d.what)
IsTaskOf words (Sequence i) = AskForSequence words × IsPlanOf words i.plan
