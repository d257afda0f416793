use Rattle.std.proofs.Common.{◌∙◌, ◌++◌, List, length, refl, ap, ap₂, arith, length-append}
use Rattle.abuf_obj.specs.declared.face.Face.{Face}
use Rattle.abuf_obj.specs.FaceRows.{corners_in, faces_in_rows}
use Rattle.abuf_obj.proofs.Rows.{corners-append, rows-append, one-row}
use Rattle.abuf_obj.proofs.faces.Faces.push.Goals as goal

pub invariant_of-self-in-Ok : goal.invariant_of-self-in-Ok
invariant_of-self-in-Ok c =
    let own = c.self.inside in
    let rows = ap corners_in c.in-Ok.ensures.items ∙ corners-append own.rows.items _ in
    let corners = ap length c.in_ok-extend_from_slice.ensures.items ∙ length-append own.corners.items c.args.corners.now in
    omega (arith, rows, corners, c.self.invariant)

pub returns-in-Ok-clause-ok : goal.returns-in-Ok-clause-ok
returns-in-Ok-clause-ok c =
    let own = c.self.inside in
    ap₂ faces_in_rows c.in_ok-extend_from_slice.ensures.items c.in-Ok.ensures.items
    ∙ rows-append own.corners.items c.args.corners.now own.rows.items _ c.self.invariant
    ∙ ap₂ (λ (xs ys : List Face). xs ++ ys) c.self.view_is (one-row c.args.corners.now _ refl)
