use Rattle.std.proofs.Common.{◌≡◌, ◌∙◌, ℤ, pos, ◌+ℤ◌, ◌≤ℤ◌, to_z, of_z, ap₂, arith, sym, subst}
use Rattle.std.specs.Int.{w128}
use Rattle.std.proofs.lemmas.Int.{ints, to_z-of_z}
use Rattle.abuf_num.specs.Division.{floor_div}
use Rattle.abuf_raster.proofs.triangle.depth.quotient_above.Goals as goal

pub overflow_add-sum : goal.overflow_add-sum
overflow_add-sum c = omega (arith, ints)

pub returns-clause-high : goal.returns-clause-high
returns-clause-high c = λ key small h.
    let sum : to_z w128 (of_z w128 (to_z w128 (of_z w128 c.args.sum) +ℤ to_z w128 (of_z w128 c.args.spread))) ≡ c.args.sum +ℤ c.args.spread = omega (arith, ints) in
    let area = to_z-of_z w128 c.args.area (record { sfits = c.ranges.area.sfits }) in
    let same = to_z-of_z w128 c.floor_div.result (record { sfits = c.floor_div.type_inv }) ∙ (c.floor_div.ensures ∙ ap₂ floor_div sum area) in
    c.clamped.ensures.high key small (subst (λ (z : ℤ). pos key ≤ℤ z) (sym same) h)
