use Rattle.std.proofs.Common.{◌≡◌, ◌∙◌, ◌+◌, ◌*◌, ℤ, pos, ◌-ℤ◌, ◌*ℤ◌, unsigned_abs, to_z, ap, ap₂, arith}
use Rattle.std.specs.Int.{w128}
use Rattle.std.proofs.lemmas.Int.{ints}
use Rattle.abuf_raster.proofs.Bounds.{back64, back128}
use Rattle.abuf_raster.proofs.triangle.depth.weighted_reach.Goals as goal

pub returns-clause-value : goal.returns-clause-value
returns-clause-value c =
    let n = c.requires in
    let x = c.abs_diff.ensures ∙ ap₂ (λ (u v : ℤ). unsigned_abs (u -ℤ v)) (back64 c.args.b.x (omega (arith, n.near.1.0))) (back64 c.args.a.x (omega (arith, n.near.0.0))) in
    let y = c.abs_diff-2.ensures ∙ ap₂ (λ (u v : ℤ). unsigned_abs (u -ℤ v)) (back64 c.args.b.y (omega (arith, n.near.1.1))) (back64 c.args.a.y (omega (arith, n.near.0.1))) in
    let z : c.abs_diff-3.result ≡ unsigned_abs (pos c.args.p -ℤ pos c.args.q) = omega (arith, ints, c.abs_diff-3.ensures) in
    let whole : to_z w128 (128 * (c.abs_diff.result + c.abs_diff-2.result)) ≡ pos (128 * (c.abs_diff.result + c.abs_diff-2.result)) = omega (arith, ints) in
    back128 c.weighted.result (omega (arith, c.weighted.ensures.bound))
    ∙ (c.weighted.ensures.value ∙ (ap (λ (w : ℤ). w *ℤ pos c.abs_diff-3.result) whole ∙ (λ i. pos (128 * (x i + y i) * z i))))
