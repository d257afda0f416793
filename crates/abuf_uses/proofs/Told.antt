-- Where a source and a shelf tell all, there is one thing to do, or one refusal.
use Rattle.std.proofs.Common.{◌≡◌, ℕ, nat_lt, Bool, true, false, if◌then◌else◌, List, [], ◌∷◌, length, Option, Some, None, option_map, Result, Ok, Err, refl, ap, subst, arith}
use Rattle.abuf_num.specs.declared.limits.TheConstants.{MAX_BYTES}
use Rattle.abuf_obj.specs.Scene.{obj_fault}
use Rattle.abuf_obj.specs.declared.fault.Why.{Why}
use Rattle.abuf_obj.specs.declared.scene.Obj.{Obj}
use Rattle.abuf_scene.specs.Demo as demo
use Rattle.abuf_sequence.specs.declared.path.Shot.{Shot}
use Rattle.abuf_cli.specs.Jobs as words
use Rattle.abuf_cli.specs.Job.{Job}
use Rattle.abuf_cli.specs.declared.job.What.{What}
use Rattle.abuf_cli.specs.declared.job.What.TheVariants as what
use Rattle.abuf_cli.specs.declared.job.Command.{Command}
use Rattle.abuf_cli.specs.declared.job.Command.TheVariants as command
use Rattle.abuf_cli.specs.declared.job.WordFault.{WordFault}
use Rattle.abuf_top.specs.Demonstration.{demo_shelf}
use Rattle.abuf_top.specs.Libraries.{Holdings}
use Rattle.abuf_top.specs.Outside.{Outside}
use Rattle.abuf_top.specs.Paths.{path_verdict}
use Rattle.abuf_top.specs.Status.{status_number}
use Rattle.abuf_top.specs.Table.{Follows, IsAnswer, IsComplete, Row, Wrote}
use Rattle.abuf_top.specs.Verdict.{Verdict, task, words_verdict, command_verdict, shots_verdict, images_verdict, drawing_verdict, loaded, scene_verdict, fault_verdict, library_verdict, shelf_for, scene_of}
use Rattle.abuf_top.specs.declared.status.Status.{Status}
use Rattle.abuf_top.specs.declared.status.Status.TheVariants as ended
use Rattle.abuf_top.specs.declared.stop.Refusal.{Refusal}
use Rattle.abuf_top.specs.declared.stop.Refusal.TheVariants.{SceneTooLong}
use Rattle.abuf_top.specs.declared.task.Task.{Task}

-- There is one.
abbrev One : {A : Type 0} → Option A → Type 0
One {A} o = (a : A) × (o ≡ Some a)

-- What is made of one is one.
mapped : {A B : Type 0} (f : A → B) (o : Option A) → One o → One (option_map f o)
mapped f o h = (f h.0, ap (option_map f) h.1)

-- The libraries of a scene
libraries_told : (scene : Obj) (shelf : Holdings) (names : List (List ℕ)) → One (option_map (library_verdict scene) (shelf_for names (Some shelf)))
libraries_told scene shelf [] = mapped (library_verdict scene) (Some (λ name. None)) (_, refl)
libraries_told scene shelf (name ∷ names) = (library_verdict scene shelf, refl)

-- come after the faults of its lines,
lines_told : (scene : Obj) (shelf : Holdings) (fault : Option (ℕ × Why)) → One (fault_verdict scene (Some shelf) fault)
lines_told scene shelf (Some fault) = (_, refl)
lines_told scene shelf None = libraries_told scene shelf scene.libraries

-- and these after its length.
scene_told : (shelf : Holdings) (bytes : List ℕ) → One (scene_verdict (Some shelf) bytes)
scene_told shelf bytes =
    elim (nat_lt MAX_BYTES (length bytes)) as (λ (v : Bool). One (if v then Some (Err SceneTooLong) else fault_verdict (scene_of bytes) (Some shelf) (obj_fault bytes)))
    [ true ↦ (_, refl) | false ↦ lines_told (scene_of bytes) shelf (obj_fault bytes) ]

-- So it is with every drawing,
loaded_told : (w : What) (scene : List ℕ) (shelf : Holdings) → One (loaded w (Some scene) (Some shelf))
loaded_told what.Render scene shelf = scene_told shelf scene
loaded_told (what.Pick x y) scene shelf = scene_told shelf scene
loaded_told (what.Demo number) scene shelf = scene_told demo_shelf (demo.obj number)

-- with a path,
shots_told : (job : Job) (scene : List ℕ) (shelf : Holdings) (path : Result (List Shot) Refusal) → One (shots_verdict job (Some scene) (Some shelf) path)
shots_told job scene shelf (Err refusal) = (_, refl)
shots_told job scene shelf (Ok shots) = mapped (images_verdict job shots) (scene_verdict (Some shelf) scene) (scene_told shelf scene)

command_told : (c : Command) (job : Job) (scene : List ℕ) (shelf : Holdings) → One (command_verdict c job (Some scene) (Some shelf))
command_told (command.Draw w) job scene shelf = mapped (drawing_verdict job w) (loaded w (Some scene) (Some shelf)) (loaded_told w scene shelf)
command_told (command.Sequence name) job scene shelf = shots_told job scene shelf (path_verdict (shelf name))

-- and with all words.
words_told : (job : Result Job WordFault) (scene : List ℕ) (shelf : Holdings) → One (words_verdict job (Some scene) (Some shelf))
words_told (Err why) scene shelf = (_, refl)
words_told (Ok job) scene shelf = command_told job.command job scene shelf

pub told : (texts : List (List ℕ)) (scene : List ℕ) (shelf : Holdings) → (t : Result Task Refusal) × (task texts (Some scene) (Some shelf) ≡ Some t)
unfolding task
told texts scene shelf = words_told (words.job texts) scene shelf

-- With status 0 everything was written.
pub zero_wrote : (v : Verdict) (number : ℕ) (o : Outside) → IsAnswer v number o → number ≡ 0 → Wrote v o.out o.err
zero_wrote v number o a zero = go a.is a.has_number a.row where
  go : (is : Status) → number ≡ status_number is → Row v is o → Wrote v o.out o.err
  go ended.Written e r = r
  go ended.Words e r = absurd (omega (arith, e, zero))
  go ended.Scene e r = absurd (omega (arith, e, zero))
  go ended.Library e r = absurd (omega (arith, e, zero))
  go ended.PoolFull e r = absurd (omega (arith, e, zero))
  go ended.ReadFault e r = absurd (omega (arith, e, zero))
  go ended.WriteFault e r = absurd (omega (arith, e, zero))
  go ended.Memory e r = absurd (omega (arith, e, zero))
  go ended.Path e r = absurd (omega (arith, e, zero))

-- What completeness says of what is due.
pub follows : (v : Option Verdict) (due : Verdict) (number : ℕ) (o : Outside) → IsAnswer due number o → v ≡ Some due → IsComplete v number o → Follows due number o
follows v due number o a e h = subst (λ (u : Option Verdict). IsComplete u number o) e h
