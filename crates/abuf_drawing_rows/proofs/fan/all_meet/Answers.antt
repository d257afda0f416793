use Rattle.std.proofs.Common.{◌≡◌, ◌^◌, ◌≤◌, length, ap, arith}
use Rattle.std.proofs.Math.Nat.{mul-le-mul}
use Rattle.abuf_frame.specs.declared.view.View.{View}
use Rattle.abuf_drawing_rows.proofs.fan.all_meet.Goals as goal

pub draw_all-requires-clause-credit : goal.draw_all-requires-clause-credit
draw_all-requires-clause-credit g c =
    let credit : c.in_ok-frame.pass.view.credit ≡ 2 ^ 60 = ap (λ (v : View). v.credit) c.in_ok-frame.ensures.3 in
    let few : length c.deref.result.now ≤ 4096 = omega arith in
    let p = mul-le-mul few c.pixels.ensures.region.not_large in
    let q = mul-le-mul c.requires.workers.1 p in
    omega (arith, credit, q)
