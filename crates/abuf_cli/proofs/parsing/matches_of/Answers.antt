use Rattle.std.proofs.Common.{◌≡◌, map, Some, None, Err, IfOk, true, refl, ap, subst, ◌∙◌}
use Rattle.std.specs.String.{string_bytes}
use Rattle.clap.specs.Words.{App, is_simple_and_free, rows_of, found_of}
use Rattle.clap.proofs.OnLiterals.{clap_on_literals}
use Rattle.abuf_cli.specs.Commands.{app_of_command, matches}
use Rattle.abuf_cli.specs.declared.parsing.CommandName.{CommandName}
use Rattle.abuf_cli.specs.declared.parsing.CommandName.TheVariants.{Render, Pick, Demo, Sequence}
use Rattle.abuf_cli.specs.declared.job.WordFault.TheVariants.{Words}
use Rattle.abuf_cli.proofs.parsing.matches_of.Goals as goal

each_is_simple : (name : CommandName) → is_simple_and_free (app_of_command name) ≡ true
unfolding clap_on_literals
each_is_simple Render = refl
each_is_simple Pick = refl
each_is_simple Demo = refl
each_is_simple Sequence = refl

pub parse-requires : goal.parse-requires
parse-requires c = ap is_simple_and_free c.in-Ok.ensures ∙ each_is_simple c.args.name

pub returns-clause-found : goal.returns-clause-found
returns-clause-found c =
    subst (λ (a : App). IfOk c.parse.result (λ m. matches a (map string_bytes c.args.words.now) ≡ Some (rows_of (found_of m)))) c.in-Ok.ensures c.parse.ensures.found

pub returns-clause-none : goal.returns-clause-none
returns-clause-none c =
    subst (λ (a : App). c.parse.result ≡ Err Words → matches a (map string_bytes c.args.words.now) ≡ None) c.in-Ok.ensures c.parse.ensures.none
