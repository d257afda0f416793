use Rattle.std.proofs.Common.{arith, ◌^◌}
use Rattle.abuf_raster.proofs.Bounds.{abs-mul, short64}
use Rattle.abuf_raster.proofs.setup.short_product.Goals as goal

pub returns-clause-value : goal.returns-clause-value
returns-clause-value c = short64 c.args.difference c.args.distance (omega arith) (omega arith)

pub returns-clause-small : goal.returns-clause-small
returns-clause-small c = rw (short64 c.args.difference c.args.distance (omega arith) (omega arith)) (omega (arith, abs-mul c.args.difference c.args.distance (2 ^ 46) (2 ^ 7) (omega arith) (omega arith)))
