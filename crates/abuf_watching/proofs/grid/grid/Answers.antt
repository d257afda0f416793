use Rattle.std.proofs.Common.{◌≡◌, ◌∙◌, ◌+◌, ◌*◌, ◌<◌, ◌++◌, ◌∷◌, [], All, ℕ, List, length, map, ap, ap₂, sym, subst, arith, length-append}
use Rattle.std.specs.List.{range_with_len}
use Rattle.std.proofs.lemmas.List.Elements.{All-append, All-cons, All-nil}
use Rattle.std.proofs.lemmas.List.FromFn.{map-range_with_len_more}
use Rattle.abuf_watching.specs.Grid.{grid_place}
use Rattle.abuf_watching.proofs.grid.grid.Goals as goal

pub loop-n-preserved : goal.loop-n-preserved
loop-n-preserved c =
    let r = c.args.region in
    let i = c.loop-n.invariant in
    let P : ℕ → Type 0 = λ p. p < r.w * r.h in
    let items : c.push.new.self.items ≡ c.loop-n.places.items ++ c.grid_place.result ∷ [] = c.in_ok-push.ensures.items in
    record {
      value = items ∙ (ap₂ (λ (xs : List ℕ) (y : ℕ). xs ++ y ∷ []) i.value c.grid_place.ensures.value ∙ sym (map-range_with_len_more (grid_place r) 0 c.loop-n.n c.loop-n.n (omega arith)));
      within = subst (All P) (sym items) (All-append P c.loop-n.places.items (c.grid_place.result ∷ []) i.within (All-cons P c.grid_place.result [] c.grid_place.ensures.within (All-nil P)));
      count = ap (λ (xs : List ℕ). length xs) items ∙ (length-append c.loop-n.places.items (c.grid_place.result ∷ []) ∙ ap (λ (n : ℕ). n + 1) i.count);
    }
