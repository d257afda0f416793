use Rattle.std.proofs.Common.{◌∙◌, w32, ap, sym, arith}
use Rattle.std.specs.Int.{trailing_zeros}
use Rattle.abuf_raster.specs.Samples.{offsets_of}
use Rattle.abuf_resolve.specs.Shading.{composite_at}
use Rattle.abuf_resolve.specs.Sums.{summed}
use Rattle.abuf_resolve.proofs.Composite.{shared_fold, sums_in_order}
use Rattle.abuf_resolve.proofs.Sets.{fewer_left, lowest}
use Rattle.abuf_resolve.proofs.shading.Shading.sums_in_order.Goals as goal
use Rattle.abuf_resolve.proofs.shading.Shading.sums_in_order.Goals.{At-loop-colour_sum}

pub same_fragments-same-requires : goal.same_fragments-same-requires
same_fragments-same-requires c =
    let t = c.loop-colour_sum.colour_sum in
    let fair = c.loop-colour_sum.invariant.fair in
    let first = lowest t.rest t.samples (omega (arith, c.loop-colour_sum-test.true)) fair.left fair.few in
    omega (arith, first.0, fair.few)

pub composite-requires-clause-sample : goal.composite-requires-clause-sample
composite-requires-clause-sample c =
    let t = c.loop-colour_sum.colour_sum in
    let fair = c.loop-colour_sum.invariant.fair in
    let first = lowest t.rest t.samples (omega (arith, c.loop-colour_sum-test.true)) fair.left fair.few in
    omega (arith, first.0, fair.few)

pub loop-colour_sum-smaller : goal.loop-colour_sum-smaller
loop-colour_sum-smaller c =
    let t = c.loop-colour_sum.colour_sum in
    let fair = c.loop-colour_sum.invariant.fair in
    let k = trailing_zeros w32 t.rest in
    let same = c.same_fragments-same.result in
    let first = lowest t.rest t.samples (omega (arith, c.loop-colour_sum-test.true)) fair.left fair.few in
    omega (arith, c.with-more.ensures.left, fewer_left t.rest same k c.same_fragments-same.type_inv (omega (arith, first.0, fair.few)) first.1 (c.same_fragments-same.ensures.itself first.1))

pub loop-colour_sum-preserved : goal.loop-colour_sum-preserved
loop-colour_sum-preserved c =
    let shading = c.args.self.now in
    let t = c.loop-colour_sum.colour_sum in
    let fair = c.loop-colour_sum.invariant.fair in
    record {
      fair = c.with-more.ensures.fair;
      samples = c.with-more.ensures.samples ∙ c.loop-colour_sum.invariant.samples;
      holds = c.with-more.ensures.holds (composite_at shading c.args.words.now) c.loop-colour_sum.invariant.holds
          (λ j l r s.
          shared_fold shading.paints.now j (trailing_zeros w32 t.rest) shading.background c.args.words.now (c.same_fragments-same.ensures.same j (omega (arith, l, fair.few)) s)
          ∙ sym c.composite.ensures);
    }

pub returns-clause-value : goal.returns-clause-value
returns-clause-value c =
    let shading = c.args.self.now in
    c.all.ensures.value (composite_at shading c.args.words.now) c.loop-colour_sum.invariant.holds
    ∙ (ap (summed (composite_at shading c.args.words.now)) c.loop-colour_sum.invariant.samples
    ∙ sums_in_order (offsets_of shading.pattern) shading.planes shading.few c.args.at.x c.args.at.y shading.paints.now shading.background c.args.words.now c.requires.words c.requires.ascending)
