-- What every job keeps to.
use Rattle.std.specs.Prelude.{ℕ, length, ◌≡◌, ◌≤◌, ◌<◌, ◌⊎◌}
use Rattle.abuf_num.specs.declared.limits.TheConstants.{MAX_NODES, MAX_THREADS}
use Rattle.abuf_view.specs.Camera.{IsSize, IsLens, IsCamera}
use Rattle.abuf_cli.specs.Poses.{IsPose}
use Rattle.abuf_cli.specs.declared.parsing.CommandName.{CommandName}
use Rattle.abuf_cli.specs.declared.parsing.CommandName.TheVariants as named
use Rattle.abuf_cli.specs.Job.{Job}
use Rattle.abuf_cli.specs.declared.settings.Settings.{Settings}
use Rattle.abuf_cli.specs.declared.job.Storage.{Storage}
use Rattle.abuf_cli.specs.declared.job.Storage.TheVariants.{OneFrame, Bands, Layers}
use Rattle.abuf_cli.specs.declared.job.What.{What}
use Rattle.abuf_cli.specs.declared.job.What.TheVariants.{Render, Pick, Demo}
use Rattle.abuf_cli.specs.declared.job.Command.{Command}
use Rattle.abuf_cli.specs.declared.job.Command.TheVariants.{Draw, Sequence}

-- What is made of a drawing, where the image has this width and height: a pixel lies within it, and a number of triangles within its
-- range.
abbrev pub IsWhat : ℕ → ℕ → What → Type 0
IsWhat width height Render = Unit {0}
IsWhat width height (Pick x y) = (x < width) × (y < height)
IsWhat width height (Demo number) = (1 ≤ number) × (number ≤ 200000)

-- The name of a path file isn't empty.
abbrev pub IsCommand : ℕ → ℕ → Command → Type 0
IsCommand width height (Draw what) = IsWhat width height what
IsCommand width height (Sequence name) = 1 ≤ length name

-- The names of the commands.
abbrev pub drawing_name : What → CommandName
drawing_name Render = named.Render
drawing_name (Pick x y) = named.Pick
drawing_name (Demo number) = named.Demo

abbrev pub name_of : Command → CommandName
name_of (Draw what) = drawing_name what
name_of (Sequence name) = named.Sequence

-- Bands are from 1 to this height.
abbrev pub IsWithinHeight : ℕ → Storage → Type 0
IsWithinHeight height OneFrame = Unit {0}
IsWithinHeight height (Bands bands) = (1 ≤ bands) × (bands ≤ height)
IsWithinHeight height Layers = Unit {0}

-- How the fragments of a command are stored, where the image has this height: only those of `render` aren't always in one frame.
abbrev pub IsStorage : ℕ → CommandName → Storage → Type 0
IsStorage height named.Render storage = IsWithinHeight height storage
IsStorage height named.Pick storage = storage ≡ OneFrame
IsStorage height named.Demo storage = storage ≡ OneFrame
IsStorage height named.Sequence storage = storage ≡ OneFrame

-- What the settings of a command keep to.
pub record IsSettings (name : CommandName) (s : Settings) : Type 0 where
  pub size : IsSize s.size.width s.size.height
  pub threads : (1 ≤ s.threads) × (s.threads ≤ MAX_THREADS)
  pub nodes : (1 ≤ s.nodes) × (s.nodes ≤ MAX_NODES)
  pub pose : IsPose s.pose
  pub lens : IsLens s.lens.focal s.lens.near
  pub maxval : (s.maxval ≡ 255) ⊎ (s.maxval ≡ 65535)
  pub storage : IsStorage s.size.height name s.storage

pub record IsJob (job : Job) : Type 0 where
  pub command : IsCommand job.camera.width job.camera.height job.command
  pub camera : IsCamera job.camera
  pub threads : (1 ≤ job.threads) × (job.threads ≤ MAX_THREADS)
  pub nodes : (1 ≤ job.nodes) × (job.nodes ≤ MAX_NODES)
  pub maxval : (job.maxval ≡ 255) ⊎ (job.maxval ≡ 65535)
  pub storage : IsStorage job.camera.height (name_of job.command) job.storage
