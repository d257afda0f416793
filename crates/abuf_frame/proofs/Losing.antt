-- Where a pass has an entry without a node, all that it claims later are Lost.
use Rattle.std.proofs.Common.{◌≡◌, ℕ, ◌+◌, ◌-◌, ◌<◌, ◌≤◌, List, [], ◌∷◌, ◌++◌, length, sym, refl, ◌∙◌, subst, arith, ⊎_elim}
use Rattle.std.proofs.lemmas.Bool.{cases_lt}
use Rattle.abuf_frame.specs.declared.view.Entry.{Entry}
use Rattle.abuf_frame.specs.declared.view.View.{View}
use Rattle.abuf_frame.specs.Views.{Below}
use Rattle.abuf_frame.specs.Draws.{CarriesItem, CarryInOrder, Draws}
use Rattle.abuf_frame.specs.Steps.{claimed, grown, new_entries}
use Rattle.abuf_frame.proofs.Claims.{first_lost, length_new}
use Rattle.abuf_frame.proofs.Draws.{draws_from}

-- Entries without nodes carry any items.
carry_lost : (nodes first : ℕ) (items : List (ℕ × ℕ)) → nodes ≤ first → CarryInOrder first items (new_entries nodes first (length items))
carry_lost nodes first [] h = tt
carry_lost nodes first (x ∷ xs) h = (refl, subst (CarriesItem x.0 x.1) (sym (first_lost nodes first h)) tt, carry_lost nodes (first + 1) xs (omega arith))

-- So a claim that begins behind the last node draws them.
pub draws_lost : (nodes first count : ℕ) (items : List (ℕ × ℕ)) (v w : View) → length items ≡ count → count ≤ v.credit → nodes ≤ first → w ≡ claimed nodes first count v → Draws items v w
draws_lost nodes first count items v w long enough h is =
    let es : List Entry = new_entries nodes first (length items) in
    let spent : count ≡ length es = sym (length_new nodes first (length items) ∙ long) in
    let grows : claimed nodes first count v ≡ grown es v =
    λ i. record { credit = v.credit - spent i; entries = v.entries ++ new_entries nodes first (sym long i); told = v.told; seen = v.seen; walks = v.walks } in
    draws_from items v w (omega arith) (first, es, carry_lost nodes first items h, is ∙ grows)

-- What holds of all entries holds of the first of them.
below_front : (n : ℕ) (es fs : List Entry) → Below n (es ++ fs) → Below n es
below_front n [] fs b = tt
below_front n (e ∷ es) fs b = (b.0, below_front n es fs b.1)

below_back : (n : ℕ) (es fs : List Entry) → Below n (es ++ fs) → Below n fs
below_back n [] fs b = b
below_back n (e ∷ es) fs b = below_back n es fs b.1

below_up : (c d : ℕ) (es : List Entry) → Below c es → c ≤ d → Below d es
below_up c d [] b l = tt
below_up c d (e ∷ es) b l = let n = b.0 in (omega arith, below_up c d es b.1 l)

-- A claim comes after the pass's own numbers, so after one without a node.
pub claimed_behind : (nodes first : ℕ) (es : List Entry) → ¬ (Below nodes es) → Below first es → nodes ≤ first
claimed_behind nodes first es full b = ⊎_elim (λ (h : first < nodes). absurd (full (below_up first nodes es b (omega arith)))) (λ (h : nodes ≤ first). h) (cases_lt first nodes)

-- The number stays.
pub full_grown : (nodes : ℕ) (es fs : List Entry) → ¬ (Below nodes es) → ¬ (Below nodes (es ++ fs))
full_grown nodes es fs full b = full (below_front nodes es fs b)

-- Of entries in order the last has no node if there are more numbers than nodes.
last_behind : (nodes first : ℕ) (x : ℕ × ℕ) (xs : List (ℕ × ℕ)) (es : List Entry) → CarryInOrder first (x ∷ xs) es → nodes < first + length (x ∷ xs) → ¬ (Below nodes es)
last_behind nodes first x xs [] c more b = absurd c
last_behind nodes first x [] (e ∷ es) c more b = let n = c.0 in let l = b.0 in absurd (omega arith)
last_behind nodes first x (y ∷ ys) (e ∷ es) c more b = last_behind nodes (first + 1) y ys es c.2 (omega arith) b.1

-- So the pass that they were added to has such a one.
pub full_after : (nodes first : ℕ) (items : List (ℕ × ℕ)) (es : List Entry) (v w : View) → CarryInOrder first items es → w ≡ grown es v → 0 < length items → nodes < first + length items → ¬ (Below nodes w.entries)
full_after nodes first [] es v w c is some more b = absurd (omega arith)
full_after nodes first (x ∷ xs) es v w c is some more b =
    last_behind nodes first x xs es c more (below_back nodes v.entries es (subst (λ (u : View). Below nodes u.entries) is b))
