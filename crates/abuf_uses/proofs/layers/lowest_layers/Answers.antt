use Rattle.std.proofs.Common.{ap₂, ◌∙◌, rules}
use Rattle.abuf_raster.specs.Region.{Region}
use Rattle.abuf_raster.specs.Samples.{offsets_of}
use Rattle.abuf_raster.specs.declared.pattern.Pattern.{Pattern}
use Rattle.abuf_uses.specs.Lowest.{lowest_sums}
use Rattle.abuf_uses.proofs.Lowest.{sums_lowest}
use Rattle.abuf_uses.proofs.layers.lowest_layers.Goals as goal

pub returns : goal.returns
returns c =
    let tris = c.args.projected.now.tris in
    let paints = c.args.projected.now.paints in
    let l = c.loop-step.layer in
    c.in_ok-sums.ensures.value
    ∙ (sums_lowest c.args.background tris paints c.args.count l (search rules)
    ∙ ap₂ (λ (r : Region) (q : Pattern). lowest_sums (offsets_of q) c.args.background tris paints c.args.count r) c.loop-step.invariant.region c.loop-step.invariant.pattern)
