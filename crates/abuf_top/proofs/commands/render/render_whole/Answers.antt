use Rattle.std.proofs.Common.{◌∙◌, ap}
use Rattle.abuf_resolve.specs.declared.shading.spans.Resolved.{Resolved}
use Rattle.abuf_top.proofs.Listing.{rendered}
use Rattle.abuf_top.proofs.commands.render.render_whole.Goals as goal

pub returns-in-Ok : goal.returns-in-Ok
returns-in-Ok g c =
    let w = c.in-Ok.ensures in
    rendered (g.W.Resolve.gives c.args.way.now) c.args.drawing.now c.in-Ok.field-0.closed w.frame w.not_full c.requires.what c.requires.storage
    c.image_from-bytes.result c.as_slice.result.now (c.as_slice.ensures ∙ ap (λ (x : Resolved). x.sums) w.resolved) c.image_from-bytes.ensures.bytes
    c.of.result.result c.of.result.closed c.of.ensures.bytes
