use Rattle.abuf_raster.specs.Samples.{offsets_of}
use Rattle.abuf_raster.specs.Setup.{AreExtremes}
use Rattle.abuf_raster.proofs.setup.more_extremes.Given as goal

abbrev pub invariant-loop-k : goal.invariant-loop-k
invariant-loop-k g l = AreExtremes g.V.Width.number g.V.Width.reach l.t (offsets_of l.pattern) l.k l.extremes
