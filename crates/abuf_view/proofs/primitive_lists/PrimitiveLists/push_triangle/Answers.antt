use Rattle.std.proofs.Common.{◌≡◌, ◌∙◌, ap, ◌++◌, option_to_list}
use Rattle.abuf_view.specs.declared.near_plane.EyeTriangle.{EyeTriangle}
use Rattle.abuf_view.specs.NearPlane.{clipped}
use Rattle.abuf_view.specs.Eye.{clipped_by, on_screen_by, eye_point_by}
use Rattle.abuf_view.proofs.Joining.{both_pushed}
use Rattle.abuf_view.proofs.primitive_lists.PrimitiveLists.push_triangle.Goals as goal
use Rattle.abuf_view.proofs.primitive_lists.PrimitiveLists.push_triangle.Goals.{After-clip-first}

parts : (c : After-clip-first) → option_to_list c.clip-first.result.0 ++ option_to_list c.clip-first.result.1 ≡ clipped_by c.args.eye.now c.args.t.now
parts c =
    let e = c.args.eye.now in
    let a = c.sees-a.ensures.value ∙ ap (eye_point_by e) c.of.ensures.value in
    let b = c.sees-b.ensures.value ∙ ap (eye_point_by e) c.of-2.ensures.value in
    let d = c.sees-c.ensures.value ∙ ap (eye_point_by e) c.of-3.ensures.value in
    c.clip-first.ensures.parts ∙ (λ i. clipped e.near_plane.w (a i) (b i) (d i))

pub returns-clause-tris : goal.returns-clause-tris
returns-clause-tris c =
    let d = (goal.at.returns-clause-tris c).After-clip-first in
    both_pushed (on_screen_by c.args.eye.now) _ _ _ _ _ _ c.in_ok-push_clipped.ensures.tris c.in_ok-push_clipped-2.ensures.tris (parts d)

pub returns-clause-paints : goal.returns-clause-paints
returns-clause-paints c =
    let d = (goal.at.returns-clause-paints c).After-clip-first in
    both_pushed (λ (k : EyeTriangle). c.args.t.now.paint) _ _ _ _ _ _ c.in_ok-push_clipped.ensures.paints c.in_ok-push_clipped-2.ensures.paints (parts d)
