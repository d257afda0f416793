-- How often a run asks its shelf, for a path and for libraries, and when it doesn't call its source.
use Rattle.std.specs.Prelude.{◌≡◌, ◌≤◌, ◌+◌, ℕ, nat_lt, List, length, Option, Some, None, option_map, option_and_then}
use Rattle.std.specs.Prelude.{Result, Ok, Err, IsErr, if◌then◌else◌}
use Rattle.abuf_num.specs.declared.limits.TheConstants.{MAX_BYTES}
use Rattle.abuf_obj.specs.Scene.{libraries, obj_fault}
use Rattle.abuf_obj.specs.declared.fault.Why.{Why}
use Rattle.abuf_cli.specs.Job.{Job}
use Rattle.abuf_cli.specs.declared.job.What.{What}
use Rattle.abuf_cli.specs.declared.job.What.TheVariants.{Render, Pick, Demo}
use Rattle.abuf_cli.specs.declared.job.Command.{Command}
use Rattle.abuf_cli.specs.declared.job.Command.TheVariants.{Draw, Sequence}
use Rattle.abuf_cli.specs.declared.job.WordFault.{WordFault}
use Rattle.abuf_top.specs.Libraries.{Holdings, asked}
use Rattle.abuf_sequence.specs.declared.path.Shot.{Shot}
use Rattle.abuf_top.specs.Paths.{path_verdict}
use Rattle.abuf_top.specs.Verdict.{shelf_for}
use Rattle.abuf_top.specs.declared.stop.Refusal.{Refusal}

-- None, where the scene's lines have a fault; otherwise the libraries up to the first that is refused.
abbrev pub fault_fetches : List (List ℕ) → Option Holdings → Option (ℕ × Why) → Option ℕ
fault_fetches names shelf (Some fault) = Some 0
fault_fetches names shelf None = option_map (λ held. asked held names) (shelf_for names shelf)

abbrev pub scene_fetches : Option Holdings → List ℕ → Option ℕ
scene_fetches shelf bytes = if nat_lt MAX_BYTES (length bytes) then Some 0 else fault_fetches (libraries bytes) shelf (obj_fault bytes)

-- How often a call that reads calls the shelf, where what that hangs on is told, how often at most, where the source alone tells, and
-- when it doesn't call the source.
pub record Demand : Type 1 where
  pub fetches : Option ℕ
  pub most : Option ℕ
  pub NoSource : Type 0

-- Neither the source nor the shelf is called.
abbrev pub no_demand : Demand
no_demand = record { fetches = Some 0; most = Some 0; NoSource = Unit {0} }

-- For a scene from the source at most all its libraries.
abbrev pub scene_demand : Option (List ℕ) → Option Holdings → Demand
scene_demand scene shelf = record {
  fetches = option_and_then (scene_fetches shelf) scene;
  most = option_map (λ bytes. length (libraries bytes)) scene;
  NoSource = ⊥;
}

-- `demo` draws a scene of its own.
abbrev pub load_demand : What → Option (List ℕ) → Option Holdings → Demand
load_demand Render scene shelf = scene_demand scene shelf
load_demand (Pick x y) scene shelf = scene_demand scene shelf
load_demand (Demo number) scene shelf = no_demand

-- The path is one more, and where it is refused it is the only one.
abbrev pub path_fetches : Result (List Shot) Refusal → Option ℕ → Option ℕ
path_fetches (Err refusal) later = Some 1
path_fetches (Ok shots) later = option_map (λ n. 1 + n) later

abbrev pub sequence_fetches : List ℕ → Option (List ℕ) → Option Holdings → Option ℕ
sequence_fetches name scene None = None
sequence_fetches name scene (Some held) = path_fetches (path_verdict (held name)) (option_and_then (scene_fetches (Some held)) scene)

-- A sequence whose path is refused reads no scene.
abbrev pub PathIsRefused : List ℕ → Option Holdings → Type 0
PathIsRefused name None = ⊥
PathIsRefused name (Some held) = IsErr (path_verdict (held name))

abbrev pub sequence_demand : List ℕ → Option (List ℕ) → Option Holdings → Demand
sequence_demand name scene shelf = record {
  fetches = sequence_fetches name scene shelf;
  most = option_map (λ bytes. 1 + length (libraries bytes)) scene;
  NoSource = PathIsRefused name shelf;
}

abbrev pub command_demand : Command → Option (List ℕ) → Option Holdings → Demand
command_demand (Draw what) scene shelf = load_demand what scene shelf
command_demand (Sequence name) scene shelf = sequence_demand name scene shelf

-- Nor is the source called where the words give no job.
abbrev pub demand : Result Job WordFault → Option (List ℕ) → Option Holdings → Demand
demand (Err why) scene shelf = no_demand
demand (Ok job) scene shelf = command_demand job.command scene shelf

-- A shelf's counts of calls and of faults before and after: at most n calls, and where n is 0, none at all.
pub record CallsAtMost (calls_old calls_new faults_old faults_new n : ℕ) : Type 0 where
  pub most : calls_new ≤ calls_old + n
  pub none : n ≡ 0 → (calls_new ≡ calls_old) × (faults_new ≡ faults_old)
