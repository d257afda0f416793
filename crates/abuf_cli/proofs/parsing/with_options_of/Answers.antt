use Rattle.std.proofs.Common.{◌<◌, length, arith}
use Rattle.clap.specs.Words.{app_of}
use Rattle.abuf_cli.proofs.Matching.{options_step}
use Rattle.abuf_cli.proofs.parsing.with_options_of.Goals as goal

pub loop-option-preserved : goal.loop-option-preserved
loop-option-preserved c =
    let here : c.loop-option.option-index < length c.args.options.now = omega arith in
    options_step (app_of c.args.command) (app_of c.loop-option.command) (app_of c.in_ok-command.command) c.args.options.now c.loop-option.option-index _ _ here c.name.ensures c.in_ok-command.ensures c.loop-option.invariant
