-- What a run promises.
use Rattle.std.specs.Prelude.{◌≡◌, ◌*◌, ◌⊎◌, ◌↔◌, Bool, true, false, ℕ, List, IfSome, IsSome, Result, Ok, Err}
use Rattle.std.specs.Io.KnownBytes.{Keeps}
use Rattle.abuf_frame.specs.Closing.{Ended}
use Rattle.abuf_cli.specs.Jobs.{job}
use Rattle.abuf_cli.specs.Job.{Job}
use Rattle.abuf_cli.specs.declared.job.Command.{Command}
use Rattle.abuf_cli.specs.declared.job.Command.TheVariants as command
use Rattle.abuf_cli.specs.declared.job.WordFault.{WordFault}
use Rattle.abuf_top.specs.Ending.{IsFrameOf}
use Rattle.abuf_top.specs.Fetches.{demand}
use Rattle.abuf_top.specs.Image.{has_one_frame}
use Rattle.abuf_top.specs.Outside.{Outside, told}
use Rattle.abuf_top.specs.Prepared.{AskForSequence, IsTaskOf}
use Rattle.abuf_top.specs.Reads.{Calls, IsUncalled}
use Rattle.abuf_top.specs.Table.{IsAnswer, IsComplete}
use Rattle.abuf_top.specs.Verdict.{verdict, task, final_verdict}
use Rattle.abuf_top.specs.declared.stop.Refusal.{Refusal}
use Rattle.abuf_top.specs.declared.task.Task.{Task}
use Rattle.abuf_top.specs.declared.task.Task.TheVariants.{Draw, Sequence}
use Rattle.abuf_top.specs.declared.top.Ran.{Ran}

-- The words give a job whose fragments are all in one frame: those of a sequence never are.
abbrev pub command_has_frame : Command → Bool → Bool
command_has_frame (command.Draw what) one_frame = one_frame
command_has_frame (command.Sequence name) one_frame = false

abbrev pub has_frame : Result Job WordFault → Bool
has_frame (Ok job) = command_has_frame job.command (has_one_frame job)
has_frame (Err why) = false

-- Whatever is told, what a run does is a task of its words, or it is refused.
abbrev pub IsAllowed : Result Job WordFault → Result Task Refusal → Type 0
IsAllowed words (Err refusal) = Unit {0}
IsAllowed words (Ok t) = IsTaskOf words t

-- The frame of a run is that of its drawing.
abbrev pub IsFrameOfTask : Result Task Refusal → Ended → Type 0
IsFrameOfTask (Err refusal) closed = ⊥
IsFrameOfTask (Ok (Draw d)) closed = IsFrameOf d closed
IsFrameOfTask (Ok (Sequence i)) closed = ⊥

-- Whatever is told, it has the pixels of the job's image, and the job's nodes.
abbrev pub HasSizeOf : Result Job WordFault → Ended → Type 0
HasSizeOf (Ok job) closed = (closed.pixels ≡ job.camera.width * job.camera.height) × (closed.nodes ≡ job.nodes)
HasSizeOf (Err why) closed = ⊥

abbrev pub GoesWithFrame : ℕ → Type 0
GoesWithFrame number = (number ≡ 0) ⊎ ((number ≡ 5) ⊎ (number ≡ 7))

-- Status 2 comes exactly where the words give no job, unless memory runs out.
abbrev pub WordsDecide : Result Job WordFault → ℕ → Type 0
WordsDecide (Ok job) number = number ≡ 2 → ⊥
WordsDecide (Err why) number = (number ≡ 2) ⊎ (number ≡ 8)

-- A run of these words, which answers this, and finds and leaves this outside.
--
-- `found`: what the run found to do, or its refusal. `as_told`: it is that of the source and the shelf, where these tell; `allowed`:
-- and whatever they tell it is of the words' own job, by which the headers and the sizes of all outputs are known. `answer`: its
-- status is a row of the table, and that row holds of what it wrote. `complete`: where nothing failed outside, it is the row of the
-- verdict, or memory ran out. `two`: when status 2 comes, whatever is told. `nine`: with status 9 the source isn't called, whatever
-- is told. `unwritten`: but for a sequence, something is written
-- with the statuses 0 and 7 alone. `handed`: when the closed frame is handed back. `closed`: its lists are those of the drawing's
-- fragments. `size`: what it has room for. `calls`: how the run calls the source and the shelf.
pub record IsRun (words : List (List ℕ)) (ran : Ran) (o : Outside) : Type 0 where
  pub found : Result Task Refusal
  pub as_told : IfSome (task words o.source.left_old (told o.shelf)) (λ t. t ≡ found)
  pub allowed : IsAllowed (job words) found
  pub answer : IsAnswer (final_verdict found) ran.status o
  pub complete : IsComplete (verdict words o.source.left_old (told o.shelf)) ran.status o
  pub two : WordsDecide (job words) ran.status
  pub nine : ran.status ≡ 9 → IsUncalled o.source
  pub unwritten : (AskForSequence (job words) → ⊥) → ((ran.status ≡ 0) ⊎ (ran.status ≡ 7) → ⊥) → Keeps o.out.old o.out.new
  pub handed : IsSome ran.closed ↔ (GoesWithFrame ran.status × has_frame (job words) ≡ true)
  pub closed : IfSome ran.closed (IsFrameOfTask found)
  pub size : IfSome ran.closed (HasSizeOf (job words))
  pub calls : Calls (demand (job words) o.source.left_old (told o.shelf)) o.source o.shelf
