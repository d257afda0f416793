use Rattle.std.proofs.Common.{◌∙◌, sym, ap}
use Rattle.abuf_obj.specs.Scene.{astray_line}
use Rattle.abuf_obj.proofs.Rows.{rows-within}
use Rattle.abuf_obj.proofs.faces.FaceSlice.is_within.Goals as goal

pub returns : goal.returns
returns c = λ yes. ap (astray_line c.args.points) (sym c.self.view_is)
    ∙ rows-within c.args.points c.self.inside.corners.now c.self.inside.rows.now (c.are_below.ensures yes)
