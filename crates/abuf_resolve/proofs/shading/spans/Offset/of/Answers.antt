use Rattle.std.proofs.Common.{◌*◌, ◌/◌, ◌≤◌, arith}
use Rattle.std.proofs.lemmas.Nat.{div-add-mod', mod_below}
use Rattle.std.proofs.Math.Nat.{mul-le-mul, le_refl}
use Rattle.abuf_resolve.proofs.shading.spans.Offset.of.Goals as goal

pub returns : goal.returns
returns c =
    let p = c.args.place in
    let w = c.args.width in
    let some : p / w * 1 ≤ p / w * w = mul-le-mul (le_refl (p / w)) (omega (arith, c.requires)) in
    record { column = omega arith; row = omega arith; inside = omega (arith, mod_below p w c.requires); few = omega (arith, some, div-add-mod' p w) }
