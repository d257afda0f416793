use Rattle.std.proofs.Common.{slice_index_or}
use Rattle.std.proofs.lemmas.List.{get_or_default}
use Rattle.abuf_raster.specs.Samples.{offsets_of}
use Rattle.abuf_raster.specs.Triangle.{Triangle}
use Rattle.abuf_raster.proofs.Bits.{none_covered}
use Rattle.abuf_peel.proofs.Chosen.{keeps_none, keeps_one}
use Rattle.abuf_peel.proofs.input.PeelInput.keep_one.Goals as goal

pub returns-else-meets : goal.returns-else-meets
returns-else-meets c =
    let input = c.args.self.now in
    let t : Triangle = slice_index_or input.tris.now c.args.n c.index-self-n.result in
    keeps_none (offsets_of input.pattern) input.tris.now c.args.region c.args.n t c.args.members.now.items (get_or_default input.tris.now c.args.n c.index-self-n.result _ c.requires)
    (λ s is. none_covered t (offsets_of input.pattern) s.x s.y s.k is.known (c.meets.ensures c.if-meets.false s.x s.y is.x_low is.x_high is.y_low is.y_high))

pub returns-in_ok-push : goal.returns-in_ok-push
returns-in_ok-push c =
    let input = c.args.self.now in
    keeps_one (offsets_of input.pattern) input.tris.now c.args.region c.args.n c.args.members.now.items _ c.requires c.in_ok-push.ensures.items
