use Rattle.std.proofs.Common.{◌++◌, ◌∷◌, [], ◌∙◌, ap₂, sym, List, ℕ, arith, rules, ◌≡◌}
use Rattle.std.proofs.lemmas.List.FromFn.{map-range_with_len_more}
use Rattle.abuf_raster.specs.Samples.{offsets_of}
use Rattle.abuf_uses.specs.Masks.{mask_of_place}
use Rattle.abuf_uses.proofs.coverage.masks_of.Goals as goal

pub loop-place-preserved : goal.loop-place-preserved
loop-place-preserved c =
    let place = c.loop-place.place in
    let f : ℕ → ℕ = mask_of_place c.args.t.now (offsets_of c.args.pattern) c.args.region in
    let here : c.mask_at.result ≡ f place = search rules in
    record {
      masks = c.in_ok-push.ensures.items ∙ (ap₂ (λ (xs : List ℕ) (x : ℕ). xs ++ x ∷ []) c.loop-place.invariant.masks here ∙ sym (map-range_with_len_more f 0 place place (omega arith)));
    }
