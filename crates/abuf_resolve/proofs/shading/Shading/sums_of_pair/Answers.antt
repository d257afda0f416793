use Rattle.std.proofs.Common.{◌∙◌, [], ◌∷◌, ℕ, ap₂}
use Rattle.abuf_raster.specs.Samples.{offsets_of}
use Rattle.abuf_resolve.specs.Shading.{sum_at}
use Rattle.abuf_resolve.proofs.Composite.{pair_in_order, sums_turned}
use Rattle.abuf_resolve.proofs.shading.Shading.sums_of_pair.Goals as goal

pub returns-then-stay_in_order-clause-value : goal.returns-then-stay_in_order-clause-value
returns-then-stay_in_order-clause-value c =
    let shading = c.args.self.now in
    let at = c.args.at in
    let first = c.bounded-first.ensures in
    let second = c.bounded-second.ensures in
    c.composite_pair.ensures.value
    ∙ (pair_in_order (offsets_of shading.pattern) shading.planes shading.few at.x at.y shading.paints.now shading.background c.bounded-first.result.word c.bounded-second.result.word first.bounds.fragment second.bounds.fragment (c.stay_in_order.ensures c.if-stay_in_order.true)
    ∙ ap₂ (λ (v w : ℕ). sum_at shading at (v ∷ w ∷ [])) first.word second.word)

pub returns-then-stay_in_order-2-clause-value : goal.returns-then-stay_in_order-2-clause-value
returns-then-stay_in_order-2-clause-value c =
    let shading = c.args.self.now in
    let at = c.args.at in
    let first = c.bounded-first.ensures in
    let second = c.bounded-second.ensures in
    c.composite_pair-then-stay_in_order-2.ensures.value
    ∙ (pair_in_order (offsets_of shading.pattern) shading.planes shading.few at.x at.y shading.paints.now shading.background c.bounded-second.result.word c.bounded-first.result.word second.bounds.fragment first.bounds.fragment (c.stay_in_order-else-stay_in_order.ensures c.if-stay_in_order-2.true)
    ∙ (ap₂ (λ (v w : ℕ). sum_at shading at (v ∷ w ∷ [])) second.word first.word
    ∙ sums_turned (offsets_of shading.pattern) shading.planes at.x at.y shading.paints.now shading.background c.args.second c.args.first))
