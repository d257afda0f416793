use Rattle.std.proofs.Common.{◌*◌, arith, subst, sym}
use Rattle.abuf_raster.specs.Samples.{offsets_of}
use Rattle.abuf_raster.specs.Values.{AreAtMost}
use Rattle.abuf_raster.specs.TrioNumbers.{numbers_of}
use Rattle.abuf_raster.proofs.Changes.{sample_room, more_between}
use Rattle.abuf_raster.proofs.setup.more_extremes.Goals as goal

pub loop-k-preserved : goal.loop-k-preserved
loop-k-preserved g c =
    let r = g.V.Width.reach in
    let i = c.loop-k.invariant in
    let e = c.changes_to_sample-change.ensures in
    let small : AreAtMost (r * r) (numbers_of g.V.Width.number c.changes_to_sample-change.result) = subst (AreAtMost (r * r)) (sym e) (sample_room r c.args.t.now c.args.pattern c.loop-k.k c.requires.wide c.requires.near (omega arith)) in
    more_between r c.args.t.now (offsets_of c.args.pattern) c.loop-k.k _ _ (numbers_of g.V.Width.number c.changes_to_sample-change.result) _ _ i e
    c.lower.ensures.one c.lower.ensures.other c.higher.ensures.one c.higher.ensures.other (c.lower.ensures.bound (r * r) i.min_small small) (c.higher.ensures.bound (r * r) i.max_small small)
