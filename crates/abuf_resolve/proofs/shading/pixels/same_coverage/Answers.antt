use Rattle.std.proofs.Common.{◌∙◌, ℕ, ap, sym, arith}
use Rattle.abuf_resolve.specs.ColourSum.{in_set}
use Rattle.abuf_resolve.proofs.Sets.{of_both, of_left, to_both, to_left}
use Rattle.abuf_resolve.proofs.shading.pixels.same_coverage.Goals as goal

pub returns-then-covers-clause-same : goal.returns-then-covers-clause-same
returns-then-covers-clause-same c = λ j l is.
    let both = of_both c.args.set c.mask.result j is in
    (both.0, ap (λ (m : ℕ). in_set m j) (sym c.mask.ensures) ∙ (both.1 ∙ (sym c.if-covers.true ∙ c.covers.ensures)))

pub returns-then-covers-clause-itself : goal.returns-then-covers-clause-itself
returns-then-covers-clause-itself c = λ is.
    to_both c.args.set c.mask.result c.args.k is (ap (λ (m : ℕ). in_set m c.args.k) c.mask.ensures ∙ (sym c.covers.ensures ∙ c.if-covers.true))

pub returns-else-covers-clause-same : goal.returns-else-covers-clause-same
returns-else-covers-clause-same c = λ j l is.
    let mask = c.mask-else-covers.result in
    let both = of_left c.args.set mask j (omega (arith, c.mask-else-covers.ensures)) l is in
    (both.0, ap (λ (m : ℕ). in_set m j) (sym c.mask-else-covers.ensures) ∙ (both.1 ∙ (sym c.if-covers.false ∙ c.covers.ensures)))

pub returns-else-covers-clause-itself : goal.returns-else-covers-clause-itself
returns-else-covers-clause-itself c = λ is.
    let mask = c.mask-else-covers.result in
    to_left c.args.set mask c.args.k (omega (arith, c.mask-else-covers.ensures)) (omega (arith, c.requires)) is
    (ap (λ (m : ℕ). in_set m c.args.k) c.mask-else-covers.ensures ∙ (sym c.covers.ensures ∙ c.if-covers.false))
