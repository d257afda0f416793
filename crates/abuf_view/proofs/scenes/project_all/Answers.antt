use Rattle.std.proofs.Common.{All, arith, sym, subst}
use Rattle.abuf_scene.specs.Triangles.{IsTriangleInRange}
use Rattle.abuf_view.proofs.Joining.{all_tris, all_paints}
use Rattle.abuf_view.proofs.scenes.project_all.Goals as goal

pub returns-clause-tris : goal.returns-clause-tris
returns-clause-tris c =
    all_tris c.args.camera.now c.eye-eye.result c.eye-eye.ensures.value _ _ c.as_slice-triangle-items.ensures c.loop-triangle.triangle-index (omega arith) _ c.loop-triangle.invariant.0

pub returns-clause-paints : goal.returns-clause-paints
returns-clause-paints c =
    all_paints c.args.camera.now c.eye-eye.result c.eye-eye.ensures.value _ _ c.as_slice-triangle-items.ensures c.loop-triangle.triangle-index (omega arith) _ c.loop-triangle.invariant.1

pub push_triangle-requires-clause-range : goal.push_triangle-requires-clause-range
push_triangle-requires-clause-range c =
    let near : All IsTriangleInRange c.as_slice-triangle-items.result.now = subst (All IsTriangleInRange) (sym c.as_slice-triangle-items.ensures) c.requires in
    near c.loop-triangle.triangle-index _ (omega arith)
