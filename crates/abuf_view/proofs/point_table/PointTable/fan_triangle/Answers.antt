use Rattle.abuf_scene.specs.Triangles.{triangle}
use Rattle.abuf_view.proofs.Tables.{whole}
use Rattle.abuf_view.proofs.point_table.PointTable.fan_triangle.Goals as goal

pub returns-in-Some-Some-Some : goal.returns-in-Some-Some-Some
returns-in-Some-Some-Some c = λ paint.
    let self = c.args.self.now in
    let s = c.in-Some-Some-Some in
    whole self.eye (triangle self.points.now c.args.corners.now paint c.args.i) s.a s.b s.c c.joined.result s.ensures s.ensures' s.ensures'' c.joined.ensures
