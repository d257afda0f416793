use Rattle.std.proofs.Common.{arith}
use Rattle.std.proofs.lemmas.Grind.{common_steps}
use Rattle.abuf_scene.proofs.assembly.all_fans.Goals as goal

pub loop-face-preserved : goal.loop-face-preserved
loop-face-preserved c =
    let before = c.loop-face.invariant in
    let done = c.in_ok-push_face.ensures in
    record {
      known = grind (arith, common_steps);
      triangles = grind (arith, common_steps);
      count = grind (arith, common_steps);
      near = λ points. done.near points (before.near points);
    }
