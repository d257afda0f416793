use Rattle.std.proofs.Common.{rules}
use Rattle.std.proofs.lemmas.Int.{wraps}
use Rattle.abuf_raster.proofs.plane.Coefficients.sum.Goals as goal

pub returns : goal.returns
returns c = search (rules, wraps)
