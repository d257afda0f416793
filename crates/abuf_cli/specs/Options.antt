-- The table of the options and of the positional values: their names, their defaults, and which command takes which.
use Rattle.std.specs.Prelude.{List, [], ◌∷◌, ◌++◌, codes}
use Rattle.clap.specs.Words.{Text}
use Rattle.abuf_cli.specs.declared.job.Opt.{Opt}
use Rattle.abuf_cli.specs.declared.job.Opt.TheVariants.{Size, Samples, Threads, Nodes, Turn, Shift, Focal, Near, Background, Maxval, Bands, Path, At, Number}
use Rattle.abuf_cli.specs.declared.parsing.CommandName.{CommandName}
use Rattle.abuf_cli.specs.declared.parsing.CommandName.TheVariants.{Render, Pick, Demo, Sequence}

-- The name of an option, as it stands after `--`, or of a positional value.
abbrev pub name_of : Opt → Text
name_of Size = codes "size"
name_of Samples = codes "samples"
name_of Threads = codes "threads"
name_of Nodes = codes "nodes"
name_of Turn = codes "turn"
name_of Shift = codes "move"
name_of Focal = codes "focal"
name_of Near = codes "near"
name_of Background = codes "background"
name_of Maxval = codes "maxval"
name_of Bands = codes "bands"
name_of Path = codes "path"
name_of At = codes "at"
name_of Number = codes "number"

-- The text that an option has where it isn't given. Bands have none, and a positional value has to be given.
abbrev pub default_of : Opt → Text
default_of Size = codes "640x480"
default_of Samples = codes "1"
default_of Threads = codes "4"
default_of Nodes = codes "4194304"
default_of Turn = codes "1,0,0,0"
default_of Shift = codes "0,0,-4"
default_of Focal = codes "1"
default_of Near = codes "0.125"
default_of Background = codes "0,0,0"
default_of Maxval = codes "255"
default_of Bands = []
default_of Path = []
default_of At = []
default_of Number = []

-- The options of a command of one image, in the order in which their texts are refused.
abbrev pub image_options : List Opt
image_options = Size ∷ Samples ∷ Threads ∷ Nodes ∷ Turn ∷ Shift ∷ Focal ∷ Near ∷ Background ∷ Maxval ∷ []

-- The options that take a value: `render` also has bands, and `sequence` not where the camera stands.
abbrev pub options_of : CommandName → List Opt
options_of Render = image_options ++ Bands ∷ []
options_of Pick = image_options
options_of Demo = image_options
options_of Sequence = Size ∷ Samples ∷ Threads ∷ Nodes ∷ Focal ∷ Near ∷ Background ∷ Maxval ∷ []
