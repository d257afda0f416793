use Rattle.std.proofs.Common.{◌≡◌, ◌+◌, drop}
use Rattle.abuf_obj.specs.FaceRows.{corners_in}
use Rattle.abuf_obj.proofs.faces.count_corners.Given as goal

abbrev pub invariant-loop-row : goal.invariant-loop-row
invariant-loop-row l = l.count + corners_in (drop l.row-index l.rows) ≡ corners_in l.fn.rows
