use Rattle.std.proofs.Common.{◌≡◌, ◌∙◌, ◌<◌, ◌^◌, ◌/◌, [], ◌∷◌, ℕ, List, true, false, bit_and, ap, sym, length, arith}
use Rattle.std.proofs.lemmas.Nat.{and_le_l}
use Rattle.abuf_raster.specs.Samples.{offsets_of}
use Rattle.abuf_resolve.specs.Colour.{paint_at}
use Rattle.abuf_resolve.specs.Over.{composite_over}
use Rattle.abuf_resolve.specs.Shading.{composite_at}
use Rattle.abuf_resolve.specs.Sums.{summed}
use Rattle.abuf_resolve.specs.ColourSum.{in_set}
use Rattle.abuf_resolve.proofs.Composite.{two_colours}
use Rattle.abuf_resolve.proofs.Sets.{apart_from, of_both, of_left}
use Rattle.abuf_resolve.proofs.shading.Shading.composite_pair.Goals as goal

pub returns-clause-value : goal.returns-clause-value
returns-clause-value c =
    let shading = c.args.self.now in
    let lower = c.args.lower in
    let upper = c.args.upper in
    let paints = shading.paints.now in
    let bg = shading.background in
    let a : ℕ = c.mask-of_lower.result in
    let b : ℕ = c.mask-of_upper.result in
    let colours : ℕ → List ℕ = composite_at shading (lower ∷ upper ∷ []) in
    let both_fits : bit_and a b < 2 ^ 32 = omega (arith, and_le_l a b, c.mask-of_lower.type_inv) in
    let has_lower = λ (k : ℕ). ap (λ (m : ℕ). in_set m k) (sym c.mask-of_lower.ensures) in
    let has_upper = λ (k : ℕ). ap (λ (m : ℕ). in_set m k) (sym c.mask-of_upper.ensures) in
    let with_both = c.with.ensures.holds colours (c.new.ensures.holds colours)
    (λ k l r s.
    let is = of_both a b k s in
    two_colours paints k bg lower upper true true (has_lower k ∙ is.0) (has_upper k ∙ is.1)
    ∙ (ap (λ (under : List ℕ). composite_over under (paint_at paints (upper / 65536))) (sym c.composite_over-beneath.ensures) ∙ sym c.composite_over.ensures)) in
    let with_upper = c.with-2.ensures.holds colours with_both
    (λ k l r s.
    let left = of_left c.new.result.rest (bit_and a b) k both_fits (omega (arith, l, c.with.ensures.fair.few)) (ap (λ (m : ℕ). in_set m k) (sym c.with.ensures.left) ∙ r) in
    two_colours paints k bg lower upper false true (has_lower k ∙ apart_from a b k left.1 s) (has_upper k ∙ s) ∙ sym c.composite_over-2.ensures) in
    let with_lower = c.with-3.ensures.holds colours with_upper
    (λ k l r s.
    let left = of_left c.with.result.rest b k c.mask-of_upper.type_inv (omega (arith, l, c.with-2.ensures.fair.few)) (ap (λ (m : ℕ). in_set m k) (sym c.with-2.ensures.left) ∙ r) in
    two_colours paints k bg lower upper true false (has_lower k ∙ s) (has_upper k ∙ left.1) ∙ sym c.composite_over-beneath.ensures) in
    let size : c.with-3.result.samples ≡ length (offsets_of shading.pattern) =
    c.with-3.ensures.samples ∙ (c.with-2.ensures.samples ∙ (c.with.ensures.samples ∙ (c.new.ensures.samples ∙ c.size.ensures))) in
    c.all_with.ensures.value colours with_lower
    (λ k l r s.
    let left = of_left c.with-2.result.rest a k c.mask-of_lower.type_inv (omega (arith, l, c.with-3.ensures.fair.few)) (ap (λ (m : ℕ). in_set m k) (sym c.with-3.ensures.left) ∙ r) in
    let before = of_left c.with.result.rest b k c.mask-of_upper.type_inv (omega (arith, l, c.with-3.ensures.fair.few)) (ap (λ (m : ℕ). in_set m k) (sym c.with-2.ensures.left) ∙ left.0) in
    two_colours paints k bg lower upper false false (has_lower k ∙ left.1) (has_upper k ∙ before.1))
    ∙ ap (summed colours) size
