use Rattle.std.proofs.Common.{length, arith}
use Rattle.abuf_picture.proofs.Credit.{enough}
use Rattle.abuf_watching.proofs.watching.draw.Goals as goal

pub draw_all-drawn-requires-clause-credit : goal.draw_all-drawn-requires-clause-credit
draw_all-drawn-requires-clause-credit g c κs within =
    let t = c.args.watch.now.target in
    let p = c.args.watch.now.primitives in
    omega (arith, c.requires.credit, enough t.threads (length p.triangles.now) t.region.w t.region.h t.threads_within.1 p.few c.region_law.ensures.not_large)
