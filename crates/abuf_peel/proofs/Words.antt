-- The least of the words that are left.
use Rattle.std.proofs.Common.{◌≡◌, ℕ, suc, ◌+◌, ◌<◌, ◌≤◌, min, true, All, List, [], ◌∷◌, Option, Some, None, refl, ap, ◌∙◌, sym, subst, arith, nat_lt}
use Rattle.std.specs.List.{filter, AllPairs}
use Rattle.std.proofs.lemmas.Bool.{lt-ltb, ltb-false, ltb-true, not-true, cond_both}
use Rattle.std.proofs.lemmas.List.Elements.{filter_passes}
use Rattle.std.proofs.lemmas.List.Kept.{AllPairs-filter}
use Rattle.abuf_resolve.specs.Order.{put_in_order, in_order}
use Rattle.abuf_resolve.specs.Words.{reaches}
use Rattle.abuf_resolve.proofs.Covered.{filter-in_order}
use Rattle.abuf_resolve.proofs.Seen.{reaches_all, reaches_greater}
use Rattle.abuf_peel.specs.Next.{least, lower_of}

-- The first of those from a bound on isn't below it.
reached : (a h : ℕ) (r xs : List ℕ) → filter (reaches a) xs ≡ h ∷ r → a ≤ h
reached a h r xs e = ltb-false h a (not-true (nat_lt h a) ((subst (All (λ x. reaches a x ≡ true)) e (filter_passes (reaches a) xs)) 0 0 (omega arith)))

-- ---- the least of them
-- The first of a list, if there is one.
abbrev pub first : List ℕ → Option ℕ
first [] = None
first (x ∷ xs) = Some x

-- A number put in its place is the first where it is below the first.
first-put : (x : ℕ) (ys : List ℕ) → first (put_in_order nat_lt x ys) ≡ Some (lower_of x (first ys))
first-put x [] = refl
first-put x (y ∷ ys) =
    cond_both (nat_lt x y) (x ∷ y ∷ ys) (y ∷ put_in_order nat_lt x ys) (λ zs. first zs ≡ Some (min x y)) (λ l. ap (λ (m : ℕ). Some m) (omega (arith, ltb-true x y l))) (λ l. ap (λ (m : ℕ). Some m) (omega (arith, ltb-false x y l)))

-- The least is the first of the list put in order.
pub least-first : (xs : List ℕ) → least xs ≡ first (in_order nat_lt xs)
least-first [] = refl
least-first (x ∷ xs) = ap (λ (o : Option ℕ). Some (lower_of x o)) (least-first xs) ∙ sym (first-put x (in_order nat_lt xs))

-- The least of those from a bound on is the first of those in order.
pub least-left : (from : ℕ) (xs : List ℕ) → least (filter (reaches from) xs) ≡ first (filter (reaches from) (in_order nat_lt xs))
least-left from xs = least-first (filter (reaches from) xs) ∙ ap first (sym (filter-in_order (reaches from) xs))

-- Once the first of what is left of a list that rises strictly is taken, the rest is left.
pub rest_left : (from h : ℕ) (r xs : List ℕ) → AllPairs (λ a b. a < b) xs → filter (reaches from) xs ≡ h ∷ r → filter (reaches (h + 1)) xs ≡ r
rest_left from h r xs climbs e =
    let low : from ≤ h = reached from h r xs e in
    let above : AllPairs (λ a b. a < b) (h ∷ r) = subst (AllPairs (λ a b. a < b)) e (AllPairs-filter (λ a b. a < b) (reaches from) xs climbs) in
    let skip : filter (reaches (h + 1)) (h ∷ r) ≡ filter (reaches (h + 1)) r = rw (lt-ltb h (h + 1) (omega arith)) refl in
    sym (reaches_greater from (h + 1) xs (omega arith))
    ∙ (ap (filter (reaches (h + 1))) e ∙ (skip ∙ reaches_all (h + 1) r (λ k d l. omega (arith, above 0 (suc k) d (omega arith) (omega arith)))))
