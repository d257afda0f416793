use Rattle.std.proofs.Common.{◌∙◌, ◌++◌, List, length, ap, ap₂, arith, length-append}
use Rattle.abuf_obj.specs.declared.face.Face.{Face}
use Rattle.abuf_obj.specs.FaceRows.{corners_in, faces_in_rows}
use Rattle.abuf_obj.proofs.Rows.{corners-append, rows-append}
use Rattle.abuf_obj.proofs.faces.Faces.joined.Goals as goal

pub invariant_of-result : goal.invariant_of-result
invariant_of-result c =
    let a = c.first.inside in
    let b = c.second.inside in
    let rows = ap corners_in c.in_ok-append-2.ensures.items ∙ corners-append a.rows.items b.rows.items in
    let corners = ap length c.in_ok-append.ensures.items ∙ length-append a.corners.items b.corners.items in
    omega (arith, rows, corners, c.first.invariant, c.second.invariant)

pub returns : goal.returns
returns c =
    let a = c.first.inside in
    let b = c.second.inside in
    ap₂ faces_in_rows c.in_ok-append.ensures.items c.in_ok-append-2.ensures.items
    ∙ rows-append a.corners.items b.corners.items a.rows.items b.rows.items c.first.invariant
    ∙ ap₂ (λ (xs ys : List Face). xs ++ ys) c.first.view_is c.second.view_is
