use Rattle.std.proofs.Common.{◌∙◌, ap, sym}
use Rattle.abuf_obj.specs.FaceRows.{corners_of}
use Rattle.abuf_obj.proofs.Rows.{rows-corners}
use Rattle.abuf_obj.proofs.faces.FaceSlice.corner_count.Goals as goal

pub returns : goal.returns
returns c =
    let own = c.self.inside in
    sym c.self.invariant ∙ (sym (rows-corners own.corners.now own.rows.now c.self.invariant) ∙ ap corners_of c.self.view_is)
