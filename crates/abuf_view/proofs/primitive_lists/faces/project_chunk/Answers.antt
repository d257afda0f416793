use Rattle.std.proofs.Common.{◌≡◌, ◌∷◌, All, map, length, subst}
use Rattle.std.proofs.lemmas.List.Elements.{All-tail}
use Rattle.abuf_obj.specs.Sound.{IsFace}
use Rattle.abuf_obj.specs.declared.face.Face.{Face}
use Rattle.abuf_scene.specs.Triangles.{triangles_of}
use Rattle.abuf_scene.specs.Lookup.{look_up}
use Rattle.abuf_scene.specs.declared.triangles.Triangle.{Triangle}
use Rattle.abuf_view.specs.declared.near_plane.EyeTriangle.{EyeTriangle}
use Rattle.abuf_view.specs.Eye.{clipped_by, on_screen_by}
use Rattle.abuf_view.proofs.Fans.{next_made}
use Rattle.abuf_view.proofs.primitive_lists.faces.project_chunk.Goals as goal

pub loop-face-preserved : goal.loop-face-preserved
loop-face-preserved c =
    let eye = c.args.table.now.eye in
    let obj = c.args.obj.now in
    let look = look_up c.args.palette.now.materials.value in
    let before = c.loop-face.invariant in
    let done = c.in_ok-push_face.ensures in
    let left = c.loop-face.left in
    let face = c.in-Some.face in
    let later = c.in-Some.later in
    let is : left ≡ face ∷ later = c.in-Some.ensures.some in
    let P : Face → Type 0 = IsFace (length obj.points) (length obj.names) in
    record {
      fine = All-tail P face later (subst (All P) is before.fine);
      tris = next_made (λ (t : Triangle). map (on_screen_by eye) (clipped_by eye t)) (triangles_of look obj) c.args.chunk.faces left later face _ _ is done.tris before.tris;
      paints = next_made (λ (t : Triangle). map (λ (k : EyeTriangle). t.paint) (clipped_by eye t)) (triangles_of look obj) c.args.chunk.faces left later face _ _ is done.paints before.paints;
    }
