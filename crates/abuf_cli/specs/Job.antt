-- What the words of a command line ask for.
use Rattle.std.specs.Prelude.{ℕ, List}
use Rattle.abuf_raster.specs.declared.pattern.Pattern.{Pattern}
use Rattle.abuf_view.specs.Camera.{Camera}
use Rattle.abuf_cli.specs.declared.job.Command.{Command}
use Rattle.abuf_cli.specs.declared.job.Storage.{Storage}

-- What is to be done, and how its images are drawn and stored.
pub record Job : Type 0 where
  pub command : Command
  pub camera : Camera
  pub pattern : Pattern
  pub threads : ℕ
  pub nodes : ℕ
  pub background : List ℕ
  pub maxval : ℕ
  pub storage : Storage

-- The job of these values.
abbrev pub asked : Command → Camera → Pattern → ℕ → ℕ → List ℕ → ℕ → Storage → Job
asked command camera pattern threads nodes background maxval storage = record {
  command = command;
  camera = camera;
  pattern = pattern;
  threads = threads;
  nodes = nodes;
  background = background;
  maxval = maxval;
  storage = storage;
}
