use Rattle.std.proofs.Common.{arith, SFits, w64}
use Rattle.std.proofs.lemmas.Int.{ints, to_z-of_z}
use Rattle.abuf_view.proofs.quaternion.diagonal.Goals as goal

pub returns : goal.returns
returns c =
    let f1 = c.ranges.p in
    let f2 = c.ranges.q in
    let f3 = c.ranges.r in
    let f4 = c.ranges.s in
    let f5 : SFits w64 c.sum.result = record { sfits = c.sum.type_inv } in
    let f6 : SFits w64 c.sum-2.result = record { sfits = c.sum-2.type_inv } in
    let f7 : SFits w64 c.difference.result = record { sfits = c.difference.type_inv } in
    let a = simp to_z-of_z at c.sum.ensures.value in
    let b = simp to_z-of_z at c.sum-2.ensures.value in
    let d = simp to_z-of_z at c.difference.ensures.value in
    simp to_z-of_z (record { x = omega (arith, ints, a, b, d); y = omega (arith, ints, a, b, d); z = omega (arith, ints, a, b, d) })
