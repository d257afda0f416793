use Rattle.std.proofs.Common.{◌≡◌, ◌∙◌, ◌-◌, ◌*◌, ◌/◌, ◌^◌, ◌<◌, ℕ, ℤ, pos, ap, ap₂, min, unsigned_abs, to_z, of_z, w64, ◌+ℤ◌, ◌*ℤ◌, arith}
use Rattle.std.specs.Int.{int_wrap}
use Rattle.std.proofs.lemmas.Int.{ints, to_z-of_z}
use Rattle.abuf_raster.specs.Plane.{sum_at}
use Rattle.abuf_raster.proofs.plane.Coefficients.bounds.Goals as goal
use Rattle.abuf_raster.proofs.plane.Coefficients.bounds.Goals.{After-more-top}

once : (n : ℕ) → n < 2 ^ 63 → to_z w64 (of_z w64 (pos n)) *ℤ pos 1 ≡ pos n
once n h = omega (arith, ints)

back : (c : After-more-top) (top : ℕ) → int_wrap w64 (sum_at c.args.self.now c.args.centre +ℤ pos c.args.spread) ≡ pos top → to_z w64 (of_z w64 c.more-top.result) ≡ pos top
back c top e =
    let sum : to_z w64 (of_z w64 c.sum.result) ≡ sum_at c.args.self.now c.args.centre = to_z-of_z w64 c.sum.result (record { sfits = c.sum.type_inv }) ∙ c.sum.ensures in
    to_z-of_z w64 c.more-top.result (record { sfits = c.more-top.type_inv })
    ∙ (c.more-top.ensures ∙ (ap₂ (λ (x y : ℤ). int_wrap w64 (x +ℤ y)) sum (once c.args.spread (omega arith)) ∙ e))

pub returns-then-top-lt0-clause-between : goal.returns-then-top-lt0-clause-between
returns-then-top-lt0-clause-between c = λ top small e. let b = back (goal.at.returns-then-top-lt0-clause-between c).After-more-top top e in absurd (omega (arith, ints, b))

pub returns-clause-between : goal.returns-clause-between
returns-clause-between c = λ top small e.
    let d = c.args.self.now.area.divisor in
    let n : unsigned_abs (to_z w64 (of_z w64 c.more-top.result)) ≡ top = ap unsigned_abs (back (goal.at.returns-clause-between c).After-more-top top e) in (
      c.depth_of-low.ensures ∙ ap (λ (m : ℕ). min (m / d) 16777215) (c.saturating_sub.ensures ∙ ap (λ (m : ℕ). m - 2 * c.args.spread) n),
      c.depth_of.ensures ∙ ap (λ (m : ℕ). min (m / d) 16777215) n,
    )
