use Rattle.abuf_raster.proofs.Changes.{one_between}
use Rattle.abuf_raster.proofs.setup.all_extremes.Goals as goal

pub more_extremes-half-requires-clause-before : goal.more_extremes-half-requires-clause-before
more_extremes-half-requires-clause-before g c = one_between g.V.Width.reach c.args.t.now c.args.pattern _ c.requires.wide c.requires.near c.changes_to_sample-first.ensures

pub more_extremes-requires-else-size-gt8-clause-before : goal.more_extremes-requires-else-size-gt8-clause-before
more_extremes-requires-else-size-gt8-clause-before g c = one_between g.V.Width.reach c.args.t.now c.args.pattern _ c.requires.wide c.requires.near c.changes_to_sample-first.ensures
