-- What is told of the source and the shelf is a task of the words, or a refusal.
use Rattle.std.proofs.Common.{◌≡◌, ℕ, List, Option, Some, None, option_map, unwrap_or, Result, Ok, Err, IfSome, refl, sym, subst}
use Rattle.abuf_scene.specs.declared.triangles.Triangle.{Triangle}
use Rattle.abuf_sequence.specs.declared.path.Shot.{Shot}
use Rattle.abuf_cli.specs.Jobs as words
use Rattle.abuf_cli.specs.Job.{Job}
use Rattle.abuf_cli.specs.declared.job.What.{What}
use Rattle.abuf_cli.specs.declared.job.Command.{Command}
use Rattle.abuf_cli.specs.declared.job.Command.TheVariants as command
use Rattle.abuf_cli.specs.declared.job.WordFault.{WordFault}
use Rattle.abuf_top.specs.Libraries.{Holdings}
use Rattle.abuf_top.specs.Paths.{path_verdict}
use Rattle.abuf_top.specs.Prepared.{IsSequence}
use Rattle.abuf_top.specs.Promise.{IsAllowed}
use Rattle.abuf_top.specs.Verdict.{task, words_verdict, command_verdict, sequence_verdict, shots_verdict, images_verdict, drawing_verdict, loaded, scene_read}
use Rattle.abuf_top.specs.declared.stop.Refusal.{Refusal}
use Rattle.abuf_top.specs.declared.stop.Refusal.TheVariants as refusal
use Rattle.abuf_top.specs.declared.stop.Stop.{Stop}
use Rattle.abuf_top.specs.declared.stop.Stop.TheVariants as stop
use Rattle.abuf_top.specs.declared.task.Task.{Task}
use Rattle.abuf_top.proofs.Answering.{found_by}

module _ (job : Job) where
  -- A scene that is loaded is a drawing of a job of one,
  drawn : (w : What) (scene : Option (Result (List Triangle) Refusal)) → job.command ≡ command.Draw w → IfSome (option_map (drawing_verdict job w) scene) (IsAllowed (Ok job))
  drawn w None is = tt
  drawn w (Some (Err r)) is = tt
  drawn w (Some (Ok triangles)) is = (refl, is)

  -- or images after the plan of one of a sequence.
  shown : (shots : List Shot) (scene : Option (Result (List Triangle) Refusal)) → IsSequence job.command → IfSome (option_map (images_verdict job shots) scene) (IsAllowed (Ok job))
  shown shots None more = tt
  shown shots (Some (Err r)) more = tt
  shown shots (Some (Ok triangles)) more = (more, refl)

  -- So it is with a path that is read,
  followed : (scene : Option (List ℕ)) (shelf : Option Holdings) (path : Result (List Shot) Refusal) → IsSequence job.command
      → IfSome (shots_verdict job scene shelf path) (IsAllowed (Ok job))
  followed scene shelf (Err r) more = tt
  followed scene shelf (Ok shots) more = shown shots (scene_read scene shelf) more

  -- whatever it holds,
  pathed : (name : List ℕ) (scene : Option (List ℕ)) (shelf : Option Holdings) → IsSequence job.command
      → IfSome (sequence_verdict job name scene shelf) (IsAllowed (Ok job))
  pathed name scene None more = tt
  pathed name scene (Some held) more = followed scene (Some held) (path_verdict (held name)) more

  -- with every command,
  commanded : (c : Command) (scene : Option (List ℕ)) (shelf : Option Holdings) → job.command ≡ c → IfSome (command_verdict c job scene shelf) (IsAllowed (Ok job))
  commanded (command.Draw w) scene shelf is = drawn w (loaded w scene shelf) is
  commanded (command.Sequence name) scene shelf is = pathed name scene shelf (subst IsSequence (sym is) tt)

-- with all words.
worded : (words : Result Job WordFault) (scene : Option (List ℕ)) (shelf : Option Holdings) → IfSome (words_verdict words scene shelf) (IsAllowed words)
worded (Err why) scene shelf = tt
worded (Ok job) scene shelf = commanded job job.command scene shelf refl

-- So what is told is allowed,
told-allowed : (texts : List (List ℕ)) (scene : Option (List ℕ)) (shelf : Option Holdings) → IfSome (task texts scene shelf) (IsAllowed (words.job texts))
unfolding task
told-allowed texts scene shelf = worded (words.job texts) scene shelf

-- and so is a refusal where nothing is told.
else-allowed : (words : Result Job WordFault) (line : Option (Result Task Refusal)) → IfSome line (IsAllowed words) → IsAllowed words (unwrap_or line (Err refusal.Words))
else-allowed words None h = tt
else-allowed words (Some l) h = h

-- And so is what a run found that stops before it does a task.
pub found-allowed : (texts : List (List ℕ)) (scene : Option (List ℕ)) (shelf : Option Holdings) (s : Stop) → IsAllowed (words.job texts) (found_by (task texts scene shelf) s)
found-allowed texts scene shelf (stop.Refused r) = tt
found-allowed texts scene shelf _ = else-allowed (words.job texts) (task texts scene shelf) (told-allowed texts scene shelf)
