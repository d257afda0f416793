use Rattle.std.proofs.Common.{◌^◌}
use Rattle.abuf_raster.proofs.tiles.narrow_setup.Goals as goal

pub returns-then-is_small : goal.returns-then-is_small
returns-then-is_small c = (c.requires (2 ^ 29) (c.is_small.ensures.small.0 c.if-is_small.true), c.new.ensures)

pub returns-else-is_small : goal.returns-else-is_small
returns-else-is_small c = c.requires (2 ^ 45) c.is_small.ensures.near
