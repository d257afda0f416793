use Rattle.std.proofs.Common.{length}
use Rattle.abuf_drawing_rows.proofs.walks.length_by_tiles.Given as goal

abbrev pub decreases-loop-count : goal.decreases-loop-count
decreases-loop-count l = length l.tiles
