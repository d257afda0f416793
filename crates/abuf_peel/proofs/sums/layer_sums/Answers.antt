use Rattle.std.proofs.Common.{◌++◌, ◌∷◌, [], ◌∙◌, ap₂, sym, subst, List, ℕ, All, arith}
use Rattle.std.proofs.lemmas.List.Elements.{All-push}
use Rattle.std.proofs.lemmas.List.FromFn.{map-range_with_len_more}
use Rattle.abuf_num.specs.declared.plain.PixelSum.{PixelSum}
use Rattle.abuf_resolve.specs.Sums.{IsSmall}
use Rattle.abuf_peel.specs.Layers.{sum_of_place}
use Rattle.abuf_peel.proofs.sums.layer_sums.Goals as goal

pub loop-place-preserved : goal.loop-place-preserved
loop-place-preserved c =
    let place = c.loop-place.place in
    let f : ℕ → PixelSum = sum_of_place c.args.colours.now c.args.size in
    let P : PixelSum → Type 0 = IsSmall c.args.size in
    let items = c.in_ok-push.ensures.items in
    record {
      value = items ∙ (ap₂ (λ (xs : List PixelSum) (x : PixelSum). xs ++ x ∷ []) c.loop-place.invariant.value c.sum_of_place.ensures.value ∙ sym (map-range_with_len_more f 0 place place (omega arith)));
      small = subst (All P) (sym items) (All-push P c.loop-place.sums.items c.sum_of_place.result c.loop-place.invariant.small c.sum_of_place.ensures.small);
    }
