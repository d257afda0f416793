use Rattle.std.proofs.Common.{◌∙◌, [], ◌∷◌, arith}
use Rattle.abuf_raster.specs.Samples.{offsets_of}
use Rattle.abuf_raster.proofs.Masks.{offsets_few}
use Rattle.abuf_resolve.proofs.Composite.{apart_ascend, pair_in_order}
use Rattle.abuf_resolve.proofs.shading.Shading.sums_of_two.Goals as goal

pub returns-then-are_apart-clause-value : goal.returns-then-are_apart-clause-value
returns-then-are_apart-clause-value c =
    let shading = c.args.self.now in
    let at = c.args.at in
    c.composite_pair.ensures.value
    ∙ pair_in_order (offsets_of shading.pattern) shading.planes shading.few at.x at.y shading.paints.now shading.background c.args.first c.args.second c.requires.first c.requires.second
    (λ k l.
    apart_ascend (offsets_of shading.pattern) shading.planes at.x at.y k (c.args.first ∷ c.args.second ∷ []) (c.are_apart.ensures c.if-are_apart.true k (omega (arith, l, offsets_few shading.pattern))))
