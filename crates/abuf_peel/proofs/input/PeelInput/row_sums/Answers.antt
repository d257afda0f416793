use Rattle.std.proofs.Common.{◌≡◌, ◌∙◌, length, ap, ap₂, subst, All}
use Rattle.abuf_raster.specs.Region.{Region}
use Rattle.abuf_raster.specs.declared.pattern.Pattern.{Pattern}
use Rattle.abuf_raster.specs.Samples.{offsets_of}
use Rattle.abuf_resolve.specs.Sums.{region_sums, IsSmall}
use Rattle.abuf_peel.specs.Layers.{Peeled}
use Rattle.abuf_peel.specs.Rows.{rows_of}
use Rattle.abuf_peel.proofs.Standing.{sums_whole}
use Rattle.abuf_peel.proofs.input.PeelInput.row_sums.Goals as goal

pub returns : goal.returns
returns c =
    let a = c.args in
    let input = a.self.now in
    let l : Peeled = c.exhaust.new.layer in
    let region : l.region ≡ rows_of input a.y 1 = c.exhaust.ensures.region ∙ (ap (λ (k : Peeled). k.region) c.in_ok-layer.ensures.value ∙ c.rows_of-row.ensures) in
    let pattern : l.pattern ≡ input.pattern = c.exhaust.ensures.pattern ∙ ap (λ (k : Peeled). k.pattern) c.in_ok-layer.ensures.value in
    record {
      value =
          c.in_ok-sums.ensures.value
          ∙ (sums_whole input.background input.tris.now input.paints.now l c.exhaust.ensures.whole
          ∙ ap₂ (λ (q : Pattern) (r : Region). region_sums (offsets_of q) input.background input.tris.now input.paints.now r) pattern region);
      small = subst (λ (q : Pattern). All (IsSmall (length (offsets_of q))) c.in_ok-sums.sums) pattern c.in_ok-sums.ensures.small;
    }
