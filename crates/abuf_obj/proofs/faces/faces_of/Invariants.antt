use Rattle.std.proofs.Common.{◌≡◌, ◌++◌, length, drop}
use Rattle.abuf_obj.specs.FaceRows.{corners_in, faces_in_rows}
use Rattle.abuf_obj.proofs.faces.faces_of.Given as goal

abbrev pub invariant-loop-row : goal.invariant-loop-row
invariant-loop-row l = record {
  made : l.faces.items ++ faces_in_rows l.rest (drop l.row-index l.rows) ≡ faces_in_rows l.fn.corners l.rows;
  left : corners_in (drop l.row-index l.rows) ≡ length l.rest;
}
