use Rattle.std.proofs.Common.{◌∙◌, length, ap, sym}
use Rattle.abuf_obj.proofs.Rows.{rows-length}
use Rattle.abuf_obj.proofs.faces.FaceSlice.len.Goals as goal

pub returns : goal.returns
returns c = sym (rows-length c.self.inside.corners.now c.self.inside.rows.now) ∙ ap length c.self.view_is
