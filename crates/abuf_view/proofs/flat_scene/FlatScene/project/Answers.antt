use Rattle.std.proofs.Common.{◌∙◌, arith, refl}
use Rattle.abuf_scene.specs.Lookup.{look_up}
use Rattle.abuf_scene.specs.Triangles.{triangles_by}
use Rattle.abuf_view.proofs.Joining.{joined_tris, joined_paints, lengths}
use Rattle.abuf_view.proofs.Fans.{triangles_few}
use Rattle.abuf_view.proofs.flat_scene.FlatScene.project.Goals as goal

pub returns-clause-tris : goal.returns-clause-tris
returns-clause-tris g c =
    c.into_projected.ensures.tris ∙ joined_tris c.args.camera.now c.in_ok-table.table.eye (c.in_ok-table.ensures.eye ∙ c.eye.ensures.value) c.args.self.now _ c.self.view_is _ c.in_ok-made.ensures.tris

pub returns-clause-paints : goal.returns-clause-paints
returns-clause-paints g c =
    c.into_projected.ensures.paints ∙ joined_paints c.args.camera.now c.in_ok-table.table.eye (c.in_ok-table.ensures.eye ∙ c.eye.ensures.value) c.args.self.now _ c.self.view_is _ c.in_ok-made.ensures.paints

pub into_projected-requires : goal.into_projected-requires
into_projected-requires g c =
    let k = c.args.camera.now in
    let e = c.in_ok-table.table.eye in
    let is = c.in_ok-table.ensures.eye ∙ c.eye.ensures.value in
    let obj = c.self.inside.obj in
    let look = look_up c.self.inside.palette.materials.value in
    let ts = triangles_by look obj in
    let l = lengths k ts _ _ (joined_tris k e is ts ts refl _ c.in_ok-made.ensures.tris) (joined_paints k e is ts ts refl _ c.in_ok-made.ensures.paints) in
    record { few = omega (arith, l.0, triangles_few look obj obj.faces, c.self.invariant.0.few); painted = l.1 }
