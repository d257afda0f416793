use Rattle.abuf_top.proofs.Listing.{summarized}
use Rattle.abuf_top.proofs.commands.demo.summarize.Goals as goal

pub returns-in-Ok : goal.returns-in-Ok
returns-in-Ok g c =
    let w = c.in-Ok.ensures in
    summarized (g.W.Resolve.gives c.args.way.now) c.args.drawing.now c.in-Ok.field-0.closed w.frame w.not_full c.args.number c.requires.what c.requires.storage
    c.summary_from-summary.result c.in-Ok.field-0.resolved w.resolved c.summary_from-summary.ensures c.of.result.result c.of.result.closed c.of.ensures.bytes
