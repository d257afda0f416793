-- The job that the words of a command line ask for, or the refusal.
use Rattle.std.specs.Prelude.{Bool, true, false, ℕ, pos, neg_ℤ, List, [], ◌∷◌, codes, Option, Some, None, Result, Ok, Err, ◌≡◌}
use Rattle.clap.specs.Words.{Row, Text, first_of}
use Rattle.abuf_view.specs.Camera.{camera}
use Rattle.abuf_cli.specs.Options.{name_of}
use Rattle.abuf_cli.specs.Commands.{app_of_command, command_named, is_given, matches, text_of}
use Rattle.abuf_cli.specs.Values.{size_of, pattern_of, threads_of, nodes_of, turn_of, shift_of, focal_of, near_of, background_of, maxval_of, bands_of, at_of, number_of, path_of}
use Rattle.abuf_cli.specs.declared.parsing.CommandName.{CommandName}
use Rattle.abuf_cli.specs.declared.parsing.CommandName.TheVariants.{Render, Pick, Demo, Sequence}
use Rattle.abuf_cli.specs.declared.values.ImageSize.{ImageSize}
use Rattle.abuf_cli.specs.Job.{Job}
use Rattle.abuf_cli.specs.declared.settings.Pose.{Pose}
use Rattle.abuf_view.specs.declared.camera.Lens.{Lens}
use Rattle.abuf_cli.specs.declared.settings.Settings.{Settings}
use Rattle.abuf_cli.specs.declared.job.What.TheVariants as what
use Rattle.abuf_cli.specs.declared.job.Command.{Command}
use Rattle.abuf_cli.specs.declared.job.Command.TheVariants as command
use Rattle.abuf_cli.specs.declared.job.Storage.{Storage}
use Rattle.abuf_cli.specs.declared.job.Storage.TheVariants as stored
use Rattle.abuf_cli.specs.declared.job.Opt.{Opt}
use Rattle.abuf_cli.specs.declared.job.Opt.TheVariants as opt
use Rattle.abuf_cli.specs.declared.job.WordFault.{WordFault}
use Rattle.abuf_cli.specs.declared.job.WordFault.TheVariants.{Words, Value, Memory}

-- A value and what follows from it, or the refusal of its text.
abbrev pub need : {A B : Type 0} → Opt → Option A → (A → Result B WordFault) → Result B WordFault
need option None next = Err (Value option)
need option (Some x) next = next x

-- What follows from a value, or its refusal.
abbrev pub and_then : {A B : Type 0} → Result A WordFault → (A → Result B WordFault) → Result B WordFault
and_then (Err fault) next = Err fault
and_then (Ok x) next = next x

-- Where the camera stands and looks, by the texts of `turn` and `move`.
abbrev pub given_pose : List Row → Result Pose WordFault
given_pose rows =
    need opt.Turn (turn_of (text_of opt.Turn rows)) (λ turn.
    need opt.Shift (shift_of (text_of opt.Shift rows)) (λ shift.
    Ok (record { turn = turn; shift = shift })))

-- No turn, and four lengths of the scene away from it.
abbrev pub default_pose : Pose
default_pose = record {
  turn = pos 1 ∷ pos 0 ∷ pos 0 ∷ pos 0 ∷ [];
  shift = pos 0 ∷ pos 0 ∷ neg_ℤ (pos 262144) ∷ [];
}

-- Where the camera of a command stands and looks: `sequence` doesn't take the texts, and has the default.
abbrev pub pose_of : CommandName → List Row → Result Pose WordFault
pose_of Render rows = given_pose rows
pose_of Pick rows = given_pose rows
pose_of Demo rows = given_pose rows
pose_of Sequence rows = Ok default_pose

-- The lens of the camera.
abbrev pub lens_of : List Row → Result Lens WordFault
lens_of rows =
    need opt.Focal (focal_of (text_of opt.Focal rows)) (λ focal.
    need opt.Near (near_of (text_of opt.Near rows)) (λ near.
    Ok (record { focal = focal; near = near })))

-- How the fragments of a render are stored, by the text of `bands`, where it is given, and whether `peel` is given: with
-- it, bands are refused whatever their text.
abbrev pub render_storage : ℕ → Option Text → Bool → Result Storage WordFault
render_storage height None true = Ok stored.Layers
render_storage height None false = Ok stored.OneFrame
render_storage height (Some text) true = Err (Value opt.Bands)
render_storage height (Some text) false = need opt.Bands (bands_of height text) (λ bands. Ok (stored.Bands bands))

-- How the fragments of a command are stored, where the image has this height: only `render` has bands, or peels.
abbrev pub storage_of : CommandName → ℕ → List Row → Result Storage WordFault
storage_of Render height rows = render_storage height (first_of (name_of opt.Bands) rows) (is_given (codes "peel") rows)
storage_of Pick height rows = Ok stored.OneFrame
storage_of Demo height rows = Ok stored.OneFrame
storage_of Sequence height rows = Ok stored.OneFrame

-- The sequence of the path file of this name.
abbrev pub sequence_of : List ℕ → Result Command WordFault
sequence_of text = need opt.Path (path_of text) (λ name. Ok (command.Sequence name))

-- The command of this name, where the image has this size. Its value has to be given, so that no text stands by default.
abbrev pub command_of : CommandName → ImageSize → List Row → Result Command WordFault
command_of Render size rows = Ok (command.Draw what.Render)
command_of Pick size rows = need opt.At (at_of size (text_of opt.At rows)) (λ pixel. Ok (command.Draw (what.Pick pixel.x pixel.y)))
command_of Demo size rows = need opt.Number (number_of (text_of opt.Number rows)) (λ number. Ok (command.Draw (what.Demo number)))
command_of Sequence size rows = sequence_of (text_of opt.Path rows)

-- What the options ask for, in the order in which their texts are refused, each with the text of its default.
abbrev pub settings_of : CommandName → List Row → Result Settings WordFault
settings_of name rows =
    need opt.Size (size_of (text_of opt.Size rows)) (λ size.
    need opt.Samples (pattern_of (text_of opt.Samples rows)) (λ pattern.
    need opt.Threads (threads_of (text_of opt.Threads rows)) (λ threads.
    need opt.Nodes (nodes_of (text_of opt.Nodes rows)) (λ nodes.
    and_then (pose_of name rows) (λ pose.
    and_then (lens_of rows) (λ lens.
    need opt.Background (background_of (text_of opt.Background rows)) (λ background.
    need opt.Maxval (maxval_of (text_of opt.Maxval rows)) (λ maxval.
    and_then (storage_of name size.height rows) (λ storage.
    Ok (record {
      size = size;
      pattern = pattern;
      threads = threads;
      nodes = nodes;
      pose = pose;
      lens = lens;
      background = background;
      maxval = maxval;
      storage = storage;
    }))))))))))

-- The job of these settings that does this.
abbrev pub job_from : Settings → Command → Job
job_from s command = record {
  command = command;
  camera = camera s.size.width s.size.height s.pose.turn s.pose.shift s.lens.focal s.lens.near;
  pattern = s.pattern;
  threads = s.threads;
  nodes = s.nodes;
  background = s.background;
  maxval = s.maxval;
  storage = s.storage;
}

-- The options come first, and then the command's own value.
abbrev pub job_of : CommandName → List Row → Result Job WordFault
job_of name rows =
    and_then (settings_of name rows) (λ settings. and_then (command_of name settings.size rows) (λ command. Ok (job_from settings command)))

-- Without matches the words aren't understood.
abbrev pub of_matches : CommandName → Option (List Row) → Result Job WordFault
of_matches name None = Err Words
of_matches name (Some rows) = job_of name rows

-- The command that the first word names.
abbrev pub first_command : List Text → Option CommandName
first_command [] = None
first_command (word ∷ words) = command_named word

-- Where no command is named the words aren't understood; else `clap` reads the words after its name.
abbrev pub of_command : Option CommandName → List Text → Result Job WordFault
of_command None words = Err Words
of_command (Some name) words = of_matches name (matches (app_of_command name) words)

-- The first word names the command. `Memory` never stands here.
abbrev pub job : List Text → Result Job WordFault
job words = of_command (first_command words) words

-- An answer is the value or its refusal; memory may always run out.
abbrev pub Answers : {A : Type 0} → Result A WordFault → Result A WordFault → Type 0
Answers wanted (Ok x) = wanted ≡ Ok x
Answers wanted (Err Words) = wanted ≡ Err Words
Answers wanted (Err (Value option)) = wanted ≡ Err (Value option)
Answers wanted (Err Memory) = Unit {0}

-- A fault that no value has.
abbrev pub IsOfWords : WordFault → Type 0
IsOfWords Words = Unit {0}
IsOfWords (Value option) = ⊥
IsOfWords Memory = Unit {0}
