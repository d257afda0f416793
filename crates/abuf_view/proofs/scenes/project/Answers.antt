use Rattle.std.proofs.Common.{arith}
use Rattle.abuf_view.proofs.Joining.{lengths}
use Rattle.abuf_view.proofs.scenes.project.Goals as goal

pub into_projected-requires : goal.into_projected-requires
into_projected-requires c =
    let l = lengths c.args.camera.now c.args.scene.now.triangles _ _ c.in_ok-made.ensures.tris c.in_ok-made.ensures.paints in
    record { few = omega (arith, l.0, c.requires.few); painted = l.1 }
