use Rattle.std.proofs.Common.{rules, w64}
use Rattle.std.proofs.lemmas.Int.{wraps, wrapping_add-bits, wrapping_mul-bits}
use Rattle.abuf_raster.proofs.plane.more.Goals as goal

pub returns : goal.returns
returns c = search (rules, wraps, wrapping_add-bits w64, wrapping_mul-bits w64)
