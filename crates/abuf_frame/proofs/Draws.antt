-- What drawing adds, in one call and in several.
use Rattle.std.proofs.Common.{◌≡◌, ℕ, ◌+◌, ◌-◌, ◌≤◌, cond, List, [], ◌∷◌, ◌++◌, length, sym, refl, ap, ◌∙◌, subst, arith, IsPermutation, length-append, append_assoc, append-nil}
use Rattle.std.proofs.lemmas.List.Sums.{sum_by-append}
use Rattle.std.proofs.lemmas.List.{nil_from_length}
use Rattle.std.proofs.lemmas.List.Sorted.{IsPermutation-append, IsPermutation-append_comm, IsPermutation-append_left, IsPermutation-append_right, IsPermutation-cons, IsPermutation-middle, IsPermutation-refl, IsPermutation-trans, length_permutation}
use Rattle.abuf_frame.specs.declared.view.Stage.{Stage}
use Rattle.abuf_frame.specs.declared.view.Stage.TheVariants.{Linked, Lost}
use Rattle.abuf_frame.specs.declared.view.Entry.{Entry}
use Rattle.abuf_frame.specs.declared.view.View.{View}
use Rattle.abuf_frame.specs.Stages.{is_loose, is_lost}
use Rattle.abuf_frame.specs.Views.{endowment, loose, lost}
use Rattle.abuf_frame.specs.Steps.{grown}
use Rattle.abuf_frame.specs.Draws.{Adds, CarriesItem, CarryInOrder, Draws, pairs, with_pair}
use Rattle.abuf_num.proofs.Counting.{count_by-cons}
use Rattle.abuf_frame.proofs.Runs.{carry_length}

-- An entry that carries an item isn't loose.
carried_settled : (p y : ℕ) (x : Stage) → CarriesItem p y x → cond {A = ℕ} (is_loose x) 1 0 ≡ 0
carried_settled p y (Linked q z o) c = refl
carried_settled p y Lost c = refl
carried_settled p y _ c = absurd c

-- Nor is any of those that carry items in order.
carry_settled : (first : ℕ) (xs : List (ℕ × ℕ)) (es : List Entry) → CarryInOrder first xs es → loose es ≡ 0
carry_settled first [] [] c = refl
carry_settled first (x ∷ xs) (e ∷ es) c = let r = carry_settled (first + 1) xs es c.2 in let s = carried_settled x.0 x.1 e.stage c.1 in omega (arith, count_by-cons (λ (f : Entry). is_loose f.stage) e es)
carry_settled first _ _ c = absurd c

-- Entries whose pairs, with a rest of as many as are lost, are the items in some order. Where none is lost, nothing is left of them.
adds_but : (xs rest : List (ℕ × ℕ)) (es : List Entry) → length es ≡ length xs → loose es ≡ 0 → length rest ≡ lost es → IsPermutation (pairs es ++ rest) xs → Adds xs es
adds_but xs rest es n s m k = record {
  count = n;
  settled = s;
  carried = λ l. subst (λ (ps : List (ℕ × ℕ)). IsPermutation ps xs) (ap (λ (r : List (ℕ × ℕ)). pairs es ++ r) (nil_from_length rest (m ∙ l)) ∙ append-nil (pairs es)) k;
  rest = rest;
  missing = m;
  kept = k;
}

-- An entry that carries an item has the pair of it, or is lost and leaves it.
carried_pair : (p y : ℕ) (x : Stage) (ps rest xs : List (ℕ × ℕ)) → CarriesItem p y x → IsPermutation (ps ++ rest) xs
    → (left : List (ℕ × ℕ)) × (length left ≡ cond (is_lost x) 1 0 + length rest) × IsPermutation (with_pair x ps ++ left) ((p, y) ∷ xs)
carried_pair p y (Linked q z o) ps rest xs c k = (rest, omega arith, subst (λ (i : ℕ × ℕ). IsPermutation (i ∷ (ps ++ rest)) ((p, y) ∷ xs)) (sym (λ i. (c.0 i, c.1 i))) (IsPermutation-cons (p, y) (ps ++ rest) xs k))
carried_pair p y Lost ps rest xs c k = (
  (p, y) ∷ rest,
  omega arith,
  IsPermutation-trans (ps ++ (p, y) ∷ rest) ((p, y) ∷ (ps ++ rest)) ((p, y) ∷ xs) (IsPermutation-middle ps (p, y) rest) (IsPermutation-cons (p, y) (ps ++ rest) xs k),
)
carried_pair p y _ ps rest xs c k = absurd c

-- Entries that carry items in order have these as their pairs, but for a rest of as many as are lost.
carry_pairs : (first : ℕ) (xs : List (ℕ × ℕ)) (es : List Entry) → CarryInOrder first xs es → (rest : List (ℕ × ℕ)) × (length rest ≡ lost es) × IsPermutation (pairs es ++ rest) xs
carry_pairs first [] [] c = ([], refl, IsPermutation-refl [])
carry_pairs first (x ∷ xs) (e ∷ es) c = let r = carry_pairs (first + 1) xs es c.2 in let m = r.1 in let s = carried_pair x.0 x.1 e.stage (pairs es) r.0 xs c.1 r.2 in let n = s.1 in
    (s.0, omega (arith, count_by-cons (λ (f : Entry). is_lost f.stage) e es), s.2)
carry_pairs first _ _ c = absurd c

-- Entries that carry items in order add them.
pub carry_adds : (first : ℕ) (xs : List (ℕ × ℕ)) (es : List Entry) → CarryInOrder first xs es → Adds xs es
carry_adds first xs es c = let r = carry_pairs first xs es c in adds_but xs r.0 es (carry_length first xs es c) (carry_settled first xs es c) r.1 r.2

-- A view that has grown by entries which carry the items has drawn them.
pub draws_from : (items : List (ℕ × ℕ)) (v w : View) → length items ≤ v.credit → (first : ℕ) × (es : List Entry) × CarryInOrder first items es × (w ≡ grown es v) → Draws items v w
draws_from items v w enough r = let l = carry_length r.0 items r.1 r.2 in record { added = r.1; adds = carry_adds r.0 items r.1 r.2; fits = omega arith; after = r.3 }

-- As many of two lists are loose as in each together.
pub loose-append : (es fs : List Entry) → loose (es ++ fs) ≡ loose es + loose fs
loose-append es fs = sum_by-append (λ (e : Entry). cond (is_loose e.stage) 1 0) es fs

-- As many of two lists are lost as in each together.
lost-append : (es fs : List Entry) → lost (es ++ fs) ≡ lost es + lost fs
lost-append es fs = sum_by-append (λ (e : Entry). cond (is_lost e.stage) 1 0) es fs

-- The pair of a stage stands before any others.
with_pair-append : (x : Stage) (ps qs : List (ℕ × ℕ)) → with_pair x (ps ++ qs) ≡ with_pair x ps ++ qs
with_pair-append (Linked p y o) ps qs = refl
with_pair-append _ ps qs = refl

-- The pairs of two lists are those of each together.
pub pairs-append : (es fs : List Entry) → pairs (es ++ fs) ≡ pairs es ++ pairs fs
pairs-append [] fs = refl
pairs-append (e ∷ es) fs = ap (with_pair e.stage) (pairs-append es fs) ∙ with_pair-append e.stage (pairs es) (pairs fs)

-- Of four lists, the middle two may change places.
middle_swapped : (ws xs ys zs : List (ℕ × ℕ)) → IsPermutation ((ws ++ xs) ++ (ys ++ zs)) ((ws ++ ys) ++ (xs ++ zs))
middle_swapped ws xs ys zs = simp append_assoc (IsPermutation-append_right ws _ _ (simp append_assoc at (IsPermutation-append_left zs (xs ++ ys) (ys ++ xs) (IsPermutation-append_comm xs ys))))

-- Entries of two lists add the items of both.
pub adds-append : (xs ys : List (ℕ × ℕ)) (es fs : List Entry) → Adds xs es → Adds ys fs → Adds (xs ++ ys) (es ++ fs)
adds-append xs ys es fs a b = let ca = a.count in let cb = b.count in let sa = a.settled in let sb = b.settled in let ma = a.missing in let mb = b.missing in
    let both : IsPermutation ((pairs es ++ pairs fs) ++ (a.rest ++ b.rest)) (xs ++ ys) = IsPermutation-trans _ ((pairs es ++ a.rest) ++ (pairs fs ++ b.rest)) (xs ++ ys) (middle_swapped (pairs es) (pairs fs) a.rest b.rest)
    (IsPermutation-append (pairs es ++ a.rest) xs (pairs fs ++ b.rest) ys a.kept b.kept) in
    adds_but (xs ++ ys) (a.rest ++ b.rest) (es ++ fs) (omega (arith, length-append es fs, length-append xs ys)) (omega (arith, loose-append es fs)) (omega (arith, lost-append es fs, length-append a.rest b.rest))
    (subst (λ (ps : List (ℕ × ℕ)). IsPermutation (ps ++ (a.rest ++ b.rest)) (xs ++ ys)) (sym (pairs-append es fs)) both)

-- What adds items adds any permutation of them.
pub adds_permuted : (xs ys : List (ℕ × ℕ)) (es : List Entry) → IsPermutation xs ys → Adds xs es → Adds ys es
adds_permuted xs ys es p a = adds_but ys a.rest es (a.count ∙ sym (length_permutation xs ys p)) a.settled a.missing (IsPermutation-trans (pairs es ++ a.rest) xs ys a.kept p)

-- drawing nothing, drawing more, and drawing in another order
pub draws_none : (v : View) → Draws [] v v
draws_none v = let c : v.credit ≡ v.credit - 0 = omega arith in record {
  added = [];
  adds = adds_but [] [] [] refl refl refl (IsPermutation-refl []);
  fits = omega arith;
  after = λ i. record { credit = c i; entries = sym (append-nil v.entries) i; told = v.told; seen = v.seen; walks = v.walks };
}

-- Drawing some items and then others draws both.
pub draws_then : (xs ys : List (ℕ × ℕ)) (v w u : View) → Draws xs v w → Draws ys w u → Draws (xs ++ ys) v u
draws_then xs ys v w u a b = let l = length-append a.added b.added in let fa = a.fits in let fb = b.fits in let c = ap (λ (z : View). z.credit) a.after in
    let spent : v.credit - length a.added - length b.added ≡ v.credit - length (a.added ++ b.added) = omega arith in record {
      added = a.added ++ b.added;
      adds = adds-append xs ys a.added b.added a.adds b.adds;
      fits = omega arith;
      after = b.after ∙ (ap (grown b.added) a.after ∙ λ i. record { credit = spent i; entries = append_assoc v.entries a.added b.added i; told = v.told; seen = v.seen; walks = v.walks });
    }

-- Drawing items draws any permutation of them.
pub draws_permuted : (xs ys : List (ℕ × ℕ)) (v w : View) → IsPermutation xs ys → Draws xs v w → Draws ys v w
draws_permuted xs ys v w p a = record { added = a.added; adds = adds_permuted xs ys a.added p a.adds; fits = a.fits; after = a.after }

module _ (items : List (ℕ × ℕ)) (v w : View) (a : Draws items v w) where
  -- Drawing takes one of the credit for each item.
  pub draws_credit : w.credit + length items ≡ v.credit
  draws_credit = let c = ap (λ (z : View). z.credit) a.after in let f = a.fits in let n = a.adds.count in omega arith

  -- It leaves the endowment as it was.
  pub draws_endowment : endowment w ≡ endowment v
  draws_endowment = let c = draws_credit in let e = ap (λ (z : View). length z.entries) a.after in let l = length-append v.entries a.added in let n = a.adds.count in omega arith

  -- It leaves no entry loose that wasn't.
  pub draws_loose : loose w.entries ≡ loose v.entries
  draws_loose = let e = ap (λ (z : View). loose z.entries) a.after in let l = loose-append v.entries a.added in let s = a.adds.settled in omega arith
