-- What is left of arguments, and what is collected of them.
use Rattle.std.proofs.Common.{◌≡◌, ◌∷◌, ◌++◌, [], List, drop, length, Option, Some, None, refl, sym, ap, ◌∙◌, append-nil, arith}
use Rattle.std.specs.Iterator.{Yields, DrainsIf}
use Rattle.std.specs.Vec.Iter.{into_iter_items, into_iter_len, into_iter_steps}
use Rattle.std.specs.declared.vec.IntoIter.{IntoIter}

nothing_left : {X : Type 0} (l : List X) → length l ≡ 0 → l ≡ []
nothing_left [] h = refl
nothing_left (x ∷ xs) h = absurd (omega arith)

module _ {X A : Type 0} where
  -- Where none is left, there are no items.
  none : (s : IntoIter X A) → into_iter_len s ≡ 0 → into_iter_items s ≡ []
  none s e = nothing_left (into_iter_items s) (sym s.rest.ok.0 ∙ e)

  -- The first is taken away.
  pub after_first : (r : Option X) (s t : IntoIter X A) → into_iter_steps s r t → drop 1 (into_iter_items s) ≡ into_iter_items t
  after_first None s t h = ap (drop 1) (none s h.0) ∙ sym (none t h.1)
  after_first (Some x) s t h = ap (drop 1) h.0

  -- All that are left are collected.
  yielded : (xs : List X) (s t : IntoIter X A) → Yields into_iter_steps s xs t → into_iter_items s ≡ xs ++ into_iter_items t
  yielded [] s t h = ap into_iter_items h
  yielded (x ∷ xs) s t h = h.1.0 ∙ ap (λ (l : List X). x ∷ l) (yielded xs h.0 t h.2)

  pub collected : (xs : List X) (s : IntoIter X A) → DrainsIf into_iter_steps (Unit {0}) s xs → into_iter_items s ≡ xs
  collected xs s h =
      let end = h.2 tt in
      yielded xs s h.0 h.1 ∙ ap (λ (l : List X). xs ++ l) (none h.0 end.1.0) ∙ append-nil xs
