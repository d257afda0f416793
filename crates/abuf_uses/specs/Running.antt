-- What a command line gives over memory.
use Rattle.std.specs.Prelude.{◌≡◌, ◌⊎◌, [], ℕ, List, Some, None}
use Rattle.std.specs.List.{concat}
use Rattle.abuf_io.specs.Fetching.{held}
use Rattle.abuf_io.specs.Memory.{sink_faults, sink_taken}
use Rattle.abuf_top.specs.Status.{status_number}
use Rattle.abuf_top.specs.Table.{last_status}
use Rattle.abuf_top.specs.Verdict.{Verdict, verdict}
use Rattle.abuf_uses.specs.declared.running.Answer.{Answer}

-- The answer to a command line over this scene and these files.
--
-- `due`: what it has to give. `written`: with status 0 nothing refuses, and just what is due was written, and no message.
-- `complete`: where the output refused nothing, the status is that of what is due, or memory ran out.
pub record IsAnswerTo (words : List (List ℕ)) (scene : List ℕ) (files : List (List ℕ × List ℕ)) (answer : Answer) : Type 0 where
  pub due : Verdict
  pub is_due : verdict words (Some scene) (Some (held files)) ≡ Some due
  pub written : answer.status ≡ 0 → (due.refusal ≡ None) × (sink_taken answer.output ≡ concat due.outputs) × (sink_taken answer.messages ≡ [])
  pub complete : sink_faults answer.output ≡ 0 → (answer.status ≡ status_number (last_status due.refusal)) ⊎ (answer.status ≡ 8)
