-- The commands, as `clap` reads the words after a command's name.
use Rattle.std.specs.Prelude.{Bool, List, [], ◌∷◌, Option, Some, None, fold, codes, unwrap_or, true, if◌then◌else◌}
use Rattle.std.specs.Str.{bytes_eq}
use Rattle.clap.specs.Words.{App, Row, Rule, Text, new_app, new_rule, with_rule, matches_of, first_of, fault_of}
use Rattle.clap.specs.Kinds.{Kinds}
use Rattle.clap.specs.declared.builder.action.ArgAction.TheVariants.{SetTrue}
use Rattle.abuf_cli.specs.Options.{name_of, default_of, options_of}
use Rattle.abuf_cli.specs.declared.job.Opt.{Opt}
use Rattle.abuf_cli.specs.declared.job.Opt.TheVariants.{At, Number, Path}
use Rattle.abuf_cli.specs.declared.parsing.CommandName.{CommandName}
use Rattle.abuf_cli.specs.declared.parsing.CommandName.TheVariants.{Render, Pick, Demo, Sequence}

-- An option that takes a value: `--name value` or `--name=value`.
abbrev pub option_rule : Text → Rule
option_rule name = record (new_rule name) { long = Some name }

-- A flag, which takes no value: `--name`. It may be given once.
abbrev pub flag_rule : Text → Rule
flag_rule name = record (new_rule name) { long = Some name; action = Some SetTrue }

-- A command with these options.
abbrev pub with_options : App → List Opt → App
with_options = fold (λ app option. with_rule app (option_rule (name_of option)))

-- A positional value, which has to be given.
abbrev pub positional_rule : Text → Rule
positional_rule name = record (new_rule name) { required = true }

-- What else a command takes: `render` a flag, and each other command its positional value.
abbrev pub own_rule : CommandName → Rule
own_rule Render = flag_rule (codes "peel")
own_rule Pick = positional_rule (name_of At)
own_rule Demo = positional_rule (name_of Number)
own_rule Sequence = positional_rule (name_of Path)

-- The command of this name: its options, and its own.
abbrev pub app_of_command : CommandName → App
app_of_command name = with_rule (with_options (new_app (codes "abuf")) (options_of name)) (own_rule name)

-- The command that a word names.
abbrev pub command_named : Text → Option CommandName
command_named word =
    if bytes_eq word (codes "render") then Some Render
    else (if bytes_eq word (codes "pick") then Some Pick
    else (if bytes_eq word (codes "demo") then Some Demo
    else (if bytes_eq word (codes "sequence") then Some Sequence else None)))

-- The matches, where `clap` finds no fault.
abbrev pub matches_if : Kinds → List Row → Option (List Row)
matches_if [] rows = Some rows
matches_if (kind ∷ kinds) rows = None

-- The matches of a command for these words, of which the first is the command's name: none where `clap` finds any fault.
abbrev pub matches : App → List Text → Option (List Row)
matches app words = matches_if (fault_of app words) (matches_of app words)

-- The text that an option or a value was given, or the text of its default.
abbrev pub text_of : Opt → List Row → Text
text_of option rows = unwrap_or (first_of (name_of option) rows) (default_of option)

-- Whether a flag was given: `clap` gives it the text `true` then, and `false` otherwise.
abbrev pub is_given : Text → List Row → Bool
is_given name rows = bytes_eq (unwrap_or (first_of name rows) (codes "false")) (codes "true")
