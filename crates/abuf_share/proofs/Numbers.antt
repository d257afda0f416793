-- The numbers that turns have drawn, and the results for them.
use Rattle.std.proofs.Common.{◌≡◌, ℕ, zero, suc, ◌+◌, ◌<◌, ◌≤◌, Bool, cond, eqb, nat_lt, List, [], ◌∷◌, ◌++◌, length, map, filter, slice_index_or, sym, refl, ap, ◌∙◌, subst, arith, eq-eqb, ne_eqb, ⊎_elim, append-nil, IsPermutation, All, Result, Ok}
use denote.Param.Members.{Shared}
use Rattle.std.specs.Fn.{FnReturns}
use Rattle.std.specs.List.Sorted.{IsNonDecreasingBy}
use Rattle.std.proofs.lemmas.Bool.{cases_lt, le-ltb, lt-ltb}
use Rattle.std.proofs.lemmas.Bool.Decides.{nat_tests}
use Rattle.std.proofs.lemmas.List.{length-map, map-append}
use Rattle.std.proofs.lemmas.List.Elements.{All-head, All-tail, All-append, filter-append}
use Rattle.std.proofs.lemmas.List.Sorted.{All-permutation, IsPermutation-map}
use Rattle.abuf_num.specs.Counting.{below, times}
use Rattle.abuf_num.specs.declared.list.NoMemory.{NoMemory}
use Rattle.abuf_num.proofs.Counting.{times-append, times_kept, times_permuted, below_yes, below_no, below_from, below_more}
use Rattle.abuf_share.specs.declared.numbered.Entry.{Entry}
use Rattle.abuf_share.specs.Numbered.{AreOf, GivesEachOk, HasPassed, IsGiven, number_of, value_of}

module _ {A : Type 0} (k : A → ℕ) where
  -- What is below all numbers stands nowhere among them.
  none_below : (n : ℕ) (es : List A) → ((i : ℕ) (d : A) → i < length es → n < k (slice_index_or es i d)) → times n (map k es) ≡ 0
  none_below n [] h = refl
  none_below n (e ∷ es) h = let l = h 0 e (omega arith) in let t = ap (λ (b : Bool). cond {A = ℕ} b 1 0) (ne_eqb (k e) n (λ (s : k e ≡ n). omega arith)) in let r = none_below n es (λ i d w. h (suc i) d (omega arith)) in omega arith

  -- The first of ascending numbers from a on, each of which stands there once, is a.
  first_is : (e : A) (es : List A) (a count : ℕ) → IsNonDecreasingBy k (e ∷ es) → ((n : ℕ) → times n (map k (e ∷ es)) + below n a ≡ below n (a + count)) → k e ≡ a
  first_is e es a count up once = let at = once (k e) in let o = once a in
      ⊎_elim (λ (m : a < k e). let z = none_below a (e ∷ es) (λ i d w. let u = up 0 i d (omega arith) w in omega arith) in grind (arith, nat_tests)) (λ (m : k e ≤ a). grind (arith, nat_tests)) (cases_lt a (k e))

-- One of the numbers of two lists is at or beyond the limit where one of the second is.
pub passed_both : (limit : ℕ) (ns ms : List ℕ) → HasPassed limit ms → HasPassed limit (ns ++ ms)
passed_both limit ns ms p = record { number = p.number; is_beyond = p.is_beyond; taken = omega (arith, p.taken, times-append p.number ns ms) }

-- a list of one number that is beyond them
pub passed_one : (limit number : ℕ) → limit ≤ number → HasPassed limit (number ∷ [])
passed_one limit number l = let t = ap (λ (b : Bool). cond {A = ℕ} b 1 0) (eq-eqb number number refl) in record { number = number; is_beyond = l; taken = omega arith }

module _ {F X : Type 0} (g : Shared F (ℕ × Unit {0}) (Result X NoMemory)) (f : F) where
  -- Two lists of results are a list of the results for both.
  pub are_both : (limit : ℕ) (ns ms : List ℕ) (es ds : List (Entry X)) → AreOf g f limit ns es → AreOf g f limit ms ds → AreOf g f limit (ns ++ ms) (es ++ ds)
  are_both limit ns ms es ds a b = record {
    numbers = map-append number_of es ds ∙ ((λ i. a.numbers i ++ b.numbers i) ∙ sym (filter-append (λ (n : ℕ). nat_lt n limit) ns ms));
    given = All-append (IsGiven g f) es ds a.given b.given;
  }

  -- For a number that is at or beyond the limit there is no result.
  pub are_past : (limit number : ℕ) (ns : List ℕ) (es : List (Entry X)) → limit ≤ number → AreOf g f limit ns es → AreOf g f limit (ns ++ number ∷ []) es
  are_past limit number ns es l a = record {
    numbers = a.numbers ∙ (sym (append-nil (filter (λ (n : ℕ). nat_lt n limit) ns)) ∙ (ap (λ (b : Bool). filter (λ (n : ℕ). nat_lt n limit) ns ++ cond b (number ∷ []) []) (sym (le-ltb number limit l))
        ∙ sym (filter-append (λ (n : ℕ). nat_lt n limit) ns (number ∷ []))));
    given = a.given;
  }

  -- Where numbers are those below their count, each once, and one of them is at the limit or beyond it, there is a result for each number below.
  once_each : (limit : ℕ) (ns : List ℕ) (es : List (Entry X)) → ((n : ℕ) → times n ns ≡ below n (length ns)) → HasPassed limit ns → AreOf g f limit ns es → (n : ℕ) → times n (map number_of es) ≡ below n limit
  once_each limit ns es once past a n =
      let o = once past.number in let t = past.taken in let b = past.is_beyond in let l : past.number < length ns = below_from past.number (length ns) (omega arith) in
      ap (times n) a.numbers ∙ (times_kept (λ (m : ℕ). nat_lt m limit) n ns
      ∙ ⊎_elim (λ (w : n < limit). let y = below_yes n (length ns) (omega arith) in rw (lt-ltb n limit w) (once n ∙ y)) (λ (w : limit ≤ n). rw (le-ltb n limit w) refl) (cases_lt n limit))

  -- Of ascending numbers from a on, each once, every one stands at its place.
  stand : (es : List (Entry X)) (a count : ℕ) → IsNonDecreasingBy number_of es → ((n : ℕ) → times n (map number_of es) + below n a ≡ below n (a + count)) → All (IsGiven g f) es
      → (length es ≡ count) × ((i n : ℕ) (d : X) → i < count → n ≡ a + i → FnReturns g f (n, tt) (Ok (slice_index_or (map value_of es) i d)))
  stand [] a zero up once given = (refl, λ i n d l s. absurd (omega arith))
  stand [] a (suc count) up once given = let o = once a in let no = below_no a a (omega arith) in let y = below_yes a (a + suc count) (omega arith) in absurd (omega arith)
  stand (e ∷ es) a zero up once given = let o = once e.number in let t = ap (λ (b : Bool). cond {A = ℕ} b 1 0) (eq-eqb e.number e.number refl) in
      let w : e.number < a + 0 = below_from e.number (a + 0) (omega arith) in let is = first_is number_of e es a 0 up once in absurd (omega arith)
  stand (e ∷ es) a (suc count) up once given =
      let is : e.number ≡ a = first_is number_of e es a (suc count) up once in
      let rest = stand es (a + 1) count (λ i j d l m. up (suc i) (suc j) d (omega arith) (omega arith))
      (λ n. let o = once n in let m = below_more n a in let s = ap (λ (k : ℕ). cond {A = ℕ} (eqb k n) 1 0) is in let z : a + suc count ≡ a + 1 + count = omega arith in let b = ap (below n) z in omega arith)
      (All-tail (IsGiven g f) e es given) in
      (omega (arith, rest.0), at is rest.1)
    where
      at : e.number ≡ a → ((i n : ℕ) (d : X) → i < count → n ≡ a + 1 + i → FnReturns g f (n, tt) (Ok (slice_index_or (map value_of es) i d)))
          → (i n : ℕ) (d : X) → i < suc count → n ≡ a + i → FnReturns g f (n, tt) (Ok (slice_index_or (map value_of (e ∷ es)) i d))
      at is rest zero n d l s = let z : e.number ≡ n = omega arith in subst (λ (k : ℕ). FnReturns g f (k, tt) (Ok e.value)) z (All-head (IsGiven g f) e es given)
      at is rest (suc i) n d l s = rest i n d (omega arith) (omega arith)

  -- Put in ascending order, the results are those for the numbers from 0 on.
  pub sorted_gives : (limit : ℕ) (ns : List ℕ) (es ss : List (Entry X)) → ((n : ℕ) → times n ns ≡ below n (length ns)) → HasPassed limit ns → AreOf g f limit ns es → IsPermutation es ss → IsNonDecreasingBy number_of ss
      → (length (map value_of ss) ≡ limit) × GivesEachOk g f limit (map value_of ss)
  sorted_gives limit ns es ss once past are p up =
      let s = stand ss 0 limit up
      (λ n. let o = once_each limit ns es once past are n in let t = times_permuted n (map number_of es) (map number_of ss) (IsPermutation-map number_of es ss p) in let z = below_no n 0 (omega arith) in
      let e : 0 + limit ≡ limit = omega arith in let b = ap (below n) e in omega arith)
      (All-permutation (IsGiven g f) es ss p are.given) in
      (length-map ss value_of ∙ s.0, λ i d l. (refl, s.1 i i d l (omega arith)))
