use Rattle.std.proofs.Common.{◌∙◌, sym}
use Rattle.abuf_top.proofs.Arguments.{after_first, collected}
use Rattle.abuf_top.proofs.process.after_name.Goals as goal

pub returns : goal.returns
returns c =
    let from = c.in_ok-words.ensures.ran in
    from.2.0 ∙ sym (collected from.0 c.next-name.new.self from.1) ∙ sym (after_first c.next-name.result c.args.args c.next-name.new.self c.next-name.ensures.cases)
