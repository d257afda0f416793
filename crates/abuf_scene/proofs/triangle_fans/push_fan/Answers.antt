use Rattle.std.proofs.Common.{◌∙◌, ◌++◌, ◌∷◌, [], arith, ap, length, length-append}
use Rattle.std.proofs.lemmas.List.Elements.{All-same, All-push}
use Rattle.abuf_scene.specs.Triangles.{triangle, IsTriangleInRange}
use Rattle.abuf_scene.proofs.Turns.{fan_more}
use Rattle.abuf_scene.proofs.triangle_fans.push_fan.Goals as goal

pub loop-i-preserved : goal.loop-i-preserved
loop-i-preserved c =
    let f = triangle c.args.points.now c.args.corners.now c.args.paint in
    let i = c.loop-i.i in
    let before = c.loop-i.invariant in
    let pushed = c.in_ok-push.ensures.ok in
    let new = c.fan_triangle.result in
    record {
      low = omega arith;
      fan = pushed ∙ fan_more f c.args.triangles.now c.loop-i.triangles i new before.low before.fan c.fan_triangle.ensures.value;
      count = omega (arith, ap length pushed, length-append c.loop-i.triangles (new ∷ []), before.count, before.low);
      near = λ points old. All-same IsTriangleInRange c.push.new.self (c.loop-i.triangles ++ new ∷ []) pushed (All-push IsTriangleInRange c.loop-i.triangles new (before.near points old) (c.fan_triangle.ensures.near points));
    }
