use Rattle.std.proofs.Common.{◌≡◌, ◌∙◌, [], ◌∷◌, ℕ, List, true, false, ap, sym, length, arith}
use Rattle.std.specs.List.{All}
use Rattle.std.proofs.lemmas.List.Elements.{All-cons, All-nil}
use Rattle.std.proofs.lemmas.List.Sums.{count_by-le-length, length-filter}
use Rattle.abuf_raster.specs.Samples.{offsets_of}
use Rattle.abuf_resolve.specs.Shading.{IsFragmentOf, composite_at}
use Rattle.abuf_resolve.specs.Sums.{summed}
use Rattle.abuf_resolve.specs.ColourSum.{in_set}
use Rattle.abuf_resolve.specs.Words.{has_sample}
use Rattle.abuf_resolve.proofs.Composite.{apart_ascend, one_colour, sums_in_order}
use Rattle.abuf_resolve.proofs.Sets.{of_left}
use Rattle.abuf_resolve.proofs.shading.Shading.sums_of_one.Goals as goal

pub returns-clause-value : goal.returns-clause-value
returns-clause-value c =
    let shading = c.args.self.now in
    let at = c.args.at in
    let os = offsets_of shading.pattern in
    let word = c.args.word in
    let mask = c.mask.result in
    let paints = shading.paints.now in
    let bg = shading.background in
    let colours : ℕ → List ℕ = composite_at shading (word ∷ []) in
    let all : All (IsFragmentOf shading at) (word ∷ []) = All-cons (IsFragmentOf shading at) word [] c.requires (All-nil (IsFragmentOf shading at)) in
    let size : c.with.result.samples ≡ length os = c.with.ensures.samples ∙ (c.new.ensures.samples ∙ c.size.ensures) in
    let holds = c.with.ensures.holds colours (c.new.ensures.holds colours)
    (λ k l r s. one_colour paints k bg word true (ap (λ (m : ℕ). in_set m k) (sym c.mask.ensures) ∙ s) ∙ sym c.composite_over-above.ensures) in
    c.all_with.ensures.value colours holds
    (λ k l r s.
    let both = of_left c.new.result.rest mask k c.mask.type_inv (omega (arith, l, c.with.ensures.fair.few)) (ap (λ (m : ℕ). in_set m k) (sym c.with.ensures.left) ∙ r) in
    one_colour paints k bg word false (ap (λ (m : ℕ). in_set m k) (sym c.mask.ensures) ∙ both.1))
    ∙ (ap (summed colours) size
    ∙ sums_in_order os shading.planes shading.few at.x at.y paints bg (word ∷ []) all (λ k l. apart_ascend os shading.planes at.x at.y k (word ∷ []) (omega (arith, length-filter (has_sample k) (word ∷ []), count_by-le-length (has_sample k) (word ∷ [])))))
