use Rattle.std.proofs.Common.{arith, refl, map}
use Rattle.abuf_scene.specs.Triangles.{triangle}
use Rattle.abuf_scene.specs.declared.triangles.Triangle.{Triangle}
use Rattle.abuf_view.specs.declared.near_plane.EyeTriangle.{EyeTriangle}
use Rattle.abuf_view.specs.Eye.{clipped_by, on_screen_by}
use Rattle.abuf_view.proofs.Fans.{one_more}
use Rattle.abuf_view.proofs.primitive_lists.PrimitiveLists.push_fan.Goals as goal

pub loop-i-preserved : goal.loop-i-preserved
loop-i-preserved c =
    let eye = c.args.table.now.eye in
    let g = triangle c.args.table.now.points.now c.args.corners.now c.args.paint in
    let before = c.loop-i.invariant in
    let pushed = c.in_ok-push_fan_triangle.ensures in
    record {
      low = omega arith;
      tris = one_more (λ (t : Triangle). map (on_screen_by eye) (clipped_by eye t)) g _ _ _ c.loop-i.i (g c.loop-i.i) before.low before.tris refl pushed.tris;
      paints = one_more (λ (t : Triangle). map (λ (k : EyeTriangle). t.paint) (clipped_by eye t)) g _ _ _ c.loop-i.i (g c.loop-i.i) before.low before.paints refl pushed.paints;
    }
