use Rattle.std.proofs.Common.{◌≡◌, ◌^◌, length, ap, arith}
use Rattle.abuf_frame.specs.declared.view.View.{View}
use Rattle.abuf_picture.proofs.Credit.{enough}
use Rattle.abuf_picture.proofs.drawing.draw_into.Goals as goal

pub draw_ordered-drawn-requires-clause-credit : goal.draw_ordered-drawn-requires-clause-credit
draw_ordered-drawn-requires-clause-credit g c =
    let t = c.args.target.now in
    let o = c.args.ordered.now in
    let credit : c.args.started.1.view.credit ≡ 2 ^ 60 = ap (λ (v : View). v.credit) c.requires.started.fresh in
    omega (arith, credit, enough t.threads (length o.tris.now) o.region.w o.region.h t.threads_within.1 o.few c.region_law.ensures.not_large)
