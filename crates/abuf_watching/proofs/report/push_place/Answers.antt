use Rattle.std.proofs.Common.{List, ℕ, sym, subst}
use Rattle.std.specs.List.Sorted.{IsNonDecreasing, IsPermutation}
use Rattle.std.proofs.lemmas.List.Sorted.{IsPermutation-sym, IsPermutation-trans, IsNonDecreasingBy-from_sort}
use Rattle.abuf_watching.proofs.report.push_place.Goals as goal

pub order_law-requires-clause-ascending : goal.order_law-requires-clause-ascending
order_law-requires-clause-ascending c =
    subst IsNonDecreasing (sym c.deref-2.ensures.value) (IsNonDecreasingBy-from_sort (λ x. x) c.sort_unstable.new.self.items c.sort_unstable.ensures.sorted)

pub pixel_law-requires-clause-words : goal.pixel_law-requires-clause-words
pixel_law-requires-clause-words c =
    let w = c.requires.words in
    let shuffled : IsPermutation c.deref-3.result.now c.args.words.items =
    IsPermutation-sym _ _ (subst (λ (xs : List ℕ). IsPermutation c.args.words.items xs) (sym c.deref-3.ensures.value) c.sort_unstable.ensures.permutation) in
    record { entries = w.entries; drawn = w.drawn; here = IsPermutation-trans _ _ _ shuffled w.here }
