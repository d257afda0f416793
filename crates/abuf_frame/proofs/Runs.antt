-- Entries that are made by one claim and set in one by one.
use Rattle.std.proofs.Common.{◌≡◌, ℕ, suc, ◌+◌, ◌-◌, ◌<◌, ◌≤◌, List, [], ◌∷◌, ◌++◌, length, map, take, get_or, sym, refl, ap, ◌∙◌, subst, arith, Some, append_assoc, append-nil}
use Rattle.std.proofs.lemmas.List.{take_more, take_all, length-take-le}
use Rattle.abuf_frame.specs.declared.view.Stage.{Stage}
use Rattle.abuf_frame.specs.declared.view.Stage.TheVariants.{Claimed, Linked}
use Rattle.abuf_frame.specs.declared.view.Entry.{Entry}
use Rattle.abuf_frame.specs.declared.view.View.{View}
use Rattle.abuf_num.specs.Counting.{times}
use Rattle.abuf_num.proofs.Counting.{below_le, below_yes}
use Rattle.abuf_frame.specs.Views.{Below, number_of, stage_of}
use Rattle.abuf_frame.specs.Draws.{CarriesItem, CarryInOrder}
use Rattle.abuf_frame.specs.Steps.{grown, moved, new_entries, new_entry, restage}
use Rattle.abuf_frame.specs.Stages.{linked_in}
use Rattle.abuf_frame.proofs.Claims.{all-append, all_more, first_claimed, first_lost, times_new}
use Rattle.abuf_frame.proofs.Inserts.{find_middle, restage_middle}

-- A pixel and a payload.
abbrev pub Item : Type 0
Item = ℕ × ℕ

-- One more entry that carries the next item keeps the order.
carry_snoc : (first : ℕ) (xs : List Item) (es : List Entry) (x : Item) (e : Entry) → CarryInOrder first xs es → e.number ≡ first + length xs → CarriesItem x.0 x.1 e.stage → CarryInOrder first (xs ++ x ∷ []) (es ++ e ∷ [])
carry_snoc first [] [] x e c n s = (omega arith, s, tt)
carry_snoc first (y ∷ ys) (f ∷ fs) x e c n s = (c.0, c.1, carry_snoc (first + 1) ys fs x e c.2 (omega arith) s)
carry_snoc first _ _ x e c n s = absurd c

-- There are as many entries as items.
pub carry_length : (first : ℕ) (xs : List Item) (es : List Entry) → CarryInOrder first xs es → length es ≡ length xs
carry_length first [] [] c = refl
carry_length first (y ∷ ys) (f ∷ fs) c = ap suc (carry_length (first + 1) ys fs c.2)
carry_length first _ _ c = absurd c

-- Their numbers are below the end of the run.
carry_below : (first d : ℕ) (xs : List Item) (es : List Entry) → CarryInOrder first xs es → first + length xs ≤ d → Below d es
carry_below first d [] [] c l = tt
carry_below first d (y ∷ ys) (f ∷ fs) c l = let n = c.0 in (omega arith, carry_below (first + 1) d ys fs c.2 (omega arith))
carry_below first d _ _ c l = absurd c

-- No number before the first stands among new entries.
none_new : (nodes n first count : ℕ) → n < first → times n (map number_of (new_entries nodes first count)) ≡ 0
none_new nodes n first count l = let t = times_new nodes n first count in let a = below_yes n first l in let b = below_le n (first + count) in omega arith

-- The view in the middle of a run: entries that are done, and those still to come.
abbrev mid : ℕ → ℕ → ℕ → View → List Entry → ℕ → View
mid nodes first count v es i = record { credit = v.credit - count; entries = (v.entries ++ es) ++ new_entries nodes (first + i) (count - i); told = v.told; seen = v.seen; walks = v.walks }

-- the first i items are set in
pub record Run (nodes first count : ℕ) (items : List Item) (i : ℕ) (v w : View) : Type 0 where
  pub done : List Entry
  pub carry : CarryInOrder first (take i items) done
  pub is : w ≡ mid nodes first count v done i

module _ (nodes first count : ℕ) (items : List Item) (v : View) (all : length items ≡ count) (fresh : Below first v.entries) where
  module _ (i : ℕ) (w : View) (r : Run nodes first count items i v w) (more : i < count) where
    -- The view has it between those done and the rest.
    here : w.entries ≡ (v.entries ++ r.done) ++ new_entry nodes (first + i) ∷ new_entries nodes (first + i + 1) (count - (i + 1))
    here = ap (λ (u : View). u.entries) r.is ∙ (let e : count - i ≡ suc (count - (i + 1)) = omega arith in ap (λ (m : ℕ). (v.entries ++ r.done) ++ new_entries nodes (first + i) m) e)

    -- What comes before it has lower numbers.
    early : Below (first + i) (v.entries ++ r.done)
    early = let l = length-take-le i items (omega arith) in all-append _ v.entries r.done (all_more _ (λ e h. omega arith) v.entries fresh) (carry_below first (first + i) (take i items) r.done r.carry (omega arith))

    -- It is Claimed if it has a node.
    pub run_claimed : first + i < nodes → stage_of (first + i) w.entries ≡ Some Claimed
    run_claimed h = ap (λ (l : List Entry). stage_of (first + i) l) here ∙ (find_middle (first + i) (v.entries ++ r.done) (new_entry nodes (first + i)) (new_entries nodes (first + i + 1) (count - (i + 1))) early refl
        ∙ ap (λ (y : Stage). Some y) (first_claimed nodes (first + i) h))

    -- A run goes on by an entry that carries the next item.
    next_run : (x : Item) (e : Entry) (u : View) → x ≡ get_or items i x → e.number ≡ first + i → CarriesItem x.0 x.1 e.stage
        → u ≡ record { credit = v.credit - count; entries = (v.entries ++ r.done) ++ e ∷ new_entries nodes (first + i + 1) (count - (i + 1)); told = v.told; seen = v.seen; walks = v.walks } → Run nodes first count items (i + 1) v u
    next_run x e u at num ok is = let l = length-take-le i items (omega arith) in record {
      done = r.done ++ e ∷ [];
      carry = subst (λ (t : List Item). CarryInOrder first t (r.done ++ e ∷ [])) (sym (take_more items i x (omega arith) ∙ ap (λ (z : Item). take i items ++ z ∷ []) (sym at)))
          (carry_snoc first (take i items) r.done x e r.carry (omega arith) ok);
      is = is ∙ (let s : first + i + 1 ≡ first + (i + 1) = omega arith in let es = ap (λ (l : List Entry). l ++ new_entries nodes (first + i + 1) (count - (i + 1))) (append_assoc v.entries r.done (e ∷ []))
          in let fs = append_assoc (v.entries ++ r.done) (e ∷ []) (new_entries nodes (first + i + 1) (count - (i + 1))) in
          λ j. record { credit = v.credit - count; entries = ((sym fs ∙ es) ∙ ap (λ (k : ℕ). (v.entries ++ (r.done ++ e ∷ [])) ++ new_entries nodes k (count - (i + 1))) s) j; told = v.told; seen = v.seen; walks = v.walks });
    }

    -- It does so where the item was set in a node,
    pub run_sets : (x : Item) (old : ℕ) (u : View) → x ≡ get_or items i x → first + i < nodes → u ≡ moved (first + i) (linked_in x.0 x.1 old) w → Run nodes first count items (i + 1) v u
    run_sets x old u at h is = let n : ℕ = first + i in let p = linked_in x.0 x.1 old in
        let t = ap (restage n p) here ∙ (restage_middle n p (v.entries ++ r.done) (new_entry nodes n) (new_entries nodes (n + 1) (count - (i + 1))) early refl (none_new nodes n (n + 1) (count - (i + 1)) (omega arith))
        ∙ ap (λ (y : Stage). (v.entries ++ r.done) ++ record { number = n; stage = p y } ∷ new_entries nodes (n + 1) (count - (i + 1))) (first_claimed nodes n h)) in
        let a = ap (λ (z : View). z.credit) r.is in let b = ap (λ (z : View). z.told) r.is in let c = ap (λ (z : View). z.seen) r.is in let d = ap (λ (z : View). z.walks) r.is in
        next_run x record { number = n; stage = Linked x.0 x.1 old } u at refl (refl, refl) (is ∙ λ j. record { credit = a j; entries = t j; told = b j; seen = c j; walks = d j })

    -- and where there was no node for it.
    pub run_loses : (x : Item) → x ≡ get_or items i x → nodes ≤ first + i → Run nodes first count items (i + 1) v w
    run_loses x at h = let n : ℕ = first + i in let a = ap (λ (z : View). z.credit) r.is in let b = ap (λ (z : View). z.told) r.is in let c = ap (λ (z : View). z.seen) r.is in let d = ap (λ (z : View). z.walks) r.is in
        next_run x (new_entry nodes n) w at refl (subst (CarriesItem x.0 x.1) (sym (first_lost nodes n h)) tt) (λ j. record { credit = a j; entries = here j; told = b j; seen = c j; walks = d j })

  -- A run that is done has grown by entries that carry the items in order.
  pub run_ends : (i : ℕ) (w : View) → i ≡ count → Run nodes first count items i v w → (es : List Entry) × CarryInOrder first items es × (w ≡ grown es v)
  run_ends i w e r = let whole : take i items ≡ items = take_all i items (omega arith) in let c : CarryInOrder first items r.done = subst (λ (t : List Item). CarryInOrder first t r.done) whole r.carry in
      let len = carry_length first items r.done c in let z : count - i ≡ 0 = omega arith in let m : count ≡ length r.done = omega arith in
      (r.done, c, r.is ∙ λ j. record { credit = v.credit - m j; entries = (ap (λ (k : ℕ). (v.entries ++ r.done) ++ new_entries nodes (first + i) k) z ∙ append-nil (v.entries ++ r.done)) j; told = v.told; seen = v.seen; walks = v.walks })

-- Nothing to insert is a run that is done.
pub no_run : (items : List Item) (v : View) → items ≡ [] → (first : ℕ) × (es : List Entry) × CarryInOrder first items es × (v ≡ grown es v)
no_run items v e = let z : v.credit ≡ v.credit - 0 = omega arith in let a = append-nil v.entries in (0, [], subst (λ (t : List Item). CarryInOrder 0 t []) (sym e) tt, λ i. record { credit = z i; entries = sym a i; told = v.told; seen = v.seen; walks = v.walks })
