-- What a run has to answer: the first refusal in the stated order, or what is to be written. It is none exactly where this
-- hangs on something that isn't told: what the source has left, or what the shelf holds.
use Rattle.std.specs.Prelude.{◌+◌, ℕ, nat_lt, List, [], ◌∷◌, length, Option, Some, None, option_map}
use Rattle.std.specs.Prelude.{option_and_then, Result, Ok, Err, if◌then◌else◌}
use Rattle.abuf_num.specs.declared.limits.TheConstants.{MAX_BYTES}
use Rattle.abuf_obj.specs.Scene.{points, faces, names, libraries, obj_fault}
use Rattle.abuf_obj.specs.declared.fault.Why.{Why}
use Rattle.abuf_obj.specs.declared.scene.Obj.{Obj}
use Rattle.abuf_scene.specs.Triangles.{triangles, unknown}
use Rattle.abuf_scene.specs.declared.triangles.Triangle.{Triangle}
use Rattle.abuf_view.specs.Primitives.{prims}
use Rattle.abuf_band.specs.Bands.{band_total, first_full}
use Rattle.abuf_cli.specs.Jobs.{job}
use Rattle.abuf_cli.specs.Job.{Job}
use Rattle.abuf_cli.specs.declared.job.Storage.{Storage}
use Rattle.abuf_cli.specs.declared.job.Storage.TheVariants.{OneFrame, Bands, Layers}
use Rattle.abuf_cli.specs.declared.job.What.{What}
use Rattle.abuf_cli.specs.declared.job.Command.{Command}
use Rattle.abuf_cli.specs.declared.job.Command.TheVariants as command
use Rattle.abuf_cli.specs.declared.job.WordFault.{WordFault}
use Rattle.abuf_cli.specs.declared.job.WordFault.TheVariants as fault
use Rattle.abuf_sequence.specs.declared.path.Shot.{Shot}
use Rattle.abuf_sequence.specs.Sequences as sequence
use Rattle.abuf_sequence.specs.Sequences.{sound_images}
use Rattle.abuf_top.specs.Paths.{path_verdict}
use Rattle.abuf_top.specs.Images.{Images, plan_of, image_pool}
use Rattle.abuf_top.specs.Libraries.{Holdings, first_refusal, contents}
use Rattle.abuf_top.specs.Demonstration.{scene_for, shelf_of}
use Rattle.abuf_top.specs.Image.{Drawing, drawing_of, total}
use Rattle.abuf_top.specs.Output.{output}
use Rattle.abuf_top.specs.Refusals.{refusal_status, refusal_text, full_text}
use Rattle.abuf_top.specs.declared.status.Status.{Status}
use Rattle.abuf_top.specs.declared.status.Status.TheVariants as ended
use Rattle.abuf_top.specs.declared.stop.FullPool.{FullPool}
use Rattle.abuf_top.specs.declared.stop.FullPool.TheVariants as full
use Rattle.abuf_top.specs.declared.task.Task.{Task}
use Rattle.abuf_top.specs.declared.task.Task.TheVariants.{Draw, Sequence}
use Rattle.abuf_top.specs.declared.stop.Refusal.{Refusal}
use Rattle.abuf_top.specs.declared.stop.Refusal.TheVariants.{Words, Value, SceneTooLong, SceneLine, UnknownMaterial}

-- The status that a refused run has, and the text that it writes to its messages.
pub record Refused : Type 0 where
  pub status : Status
  pub text : List ℕ

-- What is to be written, each output by one call, one after another, and how the run ends after that: by status 0, or by a
-- refusal.
pub record Verdict : Type 0 where
  pub outputs : List (List ℕ)
  pub refusal : Option Refused

-- A refusal before anything is written.
abbrev pub refuse : Status → List ℕ → Verdict
refuse status text = record { outputs = []; refusal = Some (record { status = status; text = text }) }

-- One output, and no refusal.
abbrev pub write : List ℕ → Verdict
write bytes = record { outputs = bytes ∷ []; refusal = None }

-- The scene that these bytes define, where they have no fault.
abbrev pub scene_of : List ℕ → Obj
scene_of bytes = record { points = points bytes; faces = faces bytes; names = names bytes; libraries = libraries bytes }

abbrev pub or_unknown : Option ℕ → List Triangle → Result (List Triangle) Refusal
or_unknown (Some line) triangles = Err (UnknownMaterial line)
or_unknown None triangles = Ok triangles

-- A face whose material no library has, or else the triangles of the scene.
abbrev pub material_verdict : Obj → List (List ℕ) → Result (List Triangle) Refusal
material_verdict scene libs = or_unknown (unknown libs scene) (triangles libs scene)

abbrev pub or_refusal : Option Refusal → Result (List Triangle) Refusal → Result (List Triangle) Refusal
or_refusal (Some refusal) later = Err refusal
or_refusal None later = later

-- The libraries in order, and then the materials.
abbrev pub library_verdict : Obj → Holdings → Result (List Triangle) Refusal
library_verdict scene held = or_refusal (first_refusal held scene.libraries) (material_verdict scene (contents held scene.libraries))

-- A scene without libraries needs no shelf.
abbrev pub shelf_for : List (List ℕ) → Option Holdings → Option Holdings
shelf_for [] shelf = Some (λ name. None)
shelf_for (name ∷ names) shelf = shelf

-- The first fault of the scene's lines, and then the libraries.
abbrev pub fault_verdict : Obj → Option Holdings → Option (ℕ × Why) → Option (Result (List Triangle) Refusal)
fault_verdict scene shelf (Some fault) = Some (Err (SceneLine fault.0 fault.1))
fault_verdict scene shelf None = option_map (library_verdict scene) (shelf_for scene.libraries shelf)

-- The length of the scene, and then its lines.
abbrev pub scene_verdict : Option Holdings → List ℕ → Option (Result (List Triangle) Refusal)
scene_verdict shelf bytes = if nat_lt MAX_BYTES (length bytes) then Some (Err SceneTooLong) else fault_verdict (scene_of bytes) shelf (obj_fault bytes)

-- The scene of the source and the shelf.
abbrev pub scene_read : Option (List ℕ) → Option Holdings → Option (Result (List Triangle) Refusal)
scene_read scene shelf = option_and_then (scene_verdict shelf) scene

-- The scene of a drawing: that one, or `demo`'s own.
abbrev pub loaded : What → Option (List ℕ) → Option Holdings → Option (Result (List Triangle) Refusal)
loaded what scene shelf = scene_read (scene_for what scene) (shelf_of what shelf)

abbrev pub word_refusal : WordFault → Refusal
word_refusal fault.Words = Words
word_refusal (fault.Value option) = Value option
word_refusal fault.Memory = Words

-- One drawing of a scene's triangles, unless the scene is refused.
abbrev pub drawing_verdict : Job → What → Result (List Triangle) Refusal → Result Task Refusal
drawing_verdict job what (Err refusal) = Err refusal
drawing_verdict job what (Ok triangles) = Ok (Draw (drawing_of job what (prims job.camera triangles)))

-- An image of them for each shot.
abbrev pub images_verdict : Job → List Shot → Result (List Triangle) Refusal → Result Task Refusal
images_verdict job shots (Err refusal) = Err refusal
images_verdict job shots (Ok triangles) = Ok (Sequence (record { plan = plan_of job; triangles = triangles; shots = shots }))

-- The path, and then the scene.
abbrev pub shots_verdict : Job → Option (List ℕ) → Option Holdings → Result (List Shot) Refusal → Option (Result Task Refusal)
shots_verdict job scene shelf (Err refusal) = Some (Err refusal)
shots_verdict job scene shelf (Ok shots) = option_map (images_verdict job shots) (scene_read scene shelf)

abbrev pub sequence_verdict : Job → List ℕ → Option (List ℕ) → Option Holdings → Option (Result Task Refusal)
sequence_verdict job name scene None = None
sequence_verdict job name scene (Some held) = shots_verdict job scene (Some held) (path_verdict (held name))

abbrev pub command_verdict : Command → Job → Option (List ℕ) → Option Holdings → Option (Result Task Refusal)
command_verdict (command.Draw what) job scene shelf = option_map (drawing_verdict job what) (loaded what scene shelf)
command_verdict (command.Sequence name) job scene shelf = sequence_verdict job name scene shelf

-- The words, and then the path of a sequence and the scene.
abbrev pub words_verdict : Result Job WordFault → Option (List ℕ) → Option Holdings → Option (Result Task Refusal)
words_verdict (Err why) scene shelf = Some (Err (word_refusal why))
words_verdict (Ok job) scene shelf = command_verdict job.command job scene shelf

-- The first refusal of the words, the path, the scene, the libraries and the materials, or what is drawn.
unfoldable pub task : List (List ℕ) → Option (List ℕ) → Option Holdings → Option (Result Task Refusal)
task words scene shelf = words_verdict (job words) scene shelf

-- Where the pool of a whole image has fewer nodes than there are fragments, it is full.
abbrev pub whole_pool : Drawing → Option FullPool
whole_pool d = if nat_lt d.job.nodes (total d) then Some (full.Image (total d) d.job.nodes) else None

-- The bands of an image are drawn one after another through one pool, so the first that has more fragments is refused.
-- Messages count bands from 1.
abbrev pub band_pool : Drawing → ℕ → Option ℕ → Option FullPool
band_pool d bands (Some k) =
    Some (full.Band (k + 1) (band_total d.triangles d.job.pattern d.job.camera.width d.job.camera.height bands k) d.job.nodes)
band_pool d bands None = None

-- The first pool that is full, by how the fragments are stored: an image that is peeled has none.
abbrev pub full_pool : Drawing → Storage → Option FullPool
full_pool d OneFrame = whole_pool d
full_pool d (Bands bands) =
    band_pool d bands (first_full d.triangles d.job.pattern d.job.camera.width d.job.camera.height bands d.job.nodes)
full_pool d Layers = None

-- The full pool, or else the output.
abbrev pub or_output : Drawing → Option FullPool → Verdict
or_output d (Some pool) = refuse ended.PoolFull (full_text pool)
or_output d None = write (output d)

abbrev pub pool_verdict : Drawing → Verdict
pool_verdict d = or_output d (full_pool d d.job.storage)

-- The images of a sequence before the first whose pool is full, and then its refusal; or all images, where there is none.
abbrev pub full_image : Images → Option ℕ → Option Refused
full_image i (Some k) = Some (record { status = ended.PoolFull; text = full_text (image_pool i k) })
full_image i None = None

abbrev pub pools_verdict : Images → Verdict
pools_verdict i = record {
  outputs = sound_images i.plan i.triangles i.shots;
  refusal = full_image i (sequence.first_full i.plan i.triangles i.shots);
}

abbrev pub task_verdict : Task → Verdict
task_verdict (Draw d) = pool_verdict d
task_verdict (Sequence i) = pools_verdict i

abbrev pub final_verdict : Result Task Refusal → Verdict
final_verdict (Err refusal) = refuse (refusal_status refusal) (refusal_text refusal)
final_verdict (Ok t) = task_verdict t

abbrev pub verdict : List (List ℕ) → Option (List ℕ) → Option Holdings → Option Verdict
verdict words scene shelf = option_map final_verdict (task words scene shelf)
