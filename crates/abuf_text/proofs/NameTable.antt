-- A table of names, and one name more.
use Rattle.std.proofs.Common.{◌+◌, ◌<◌, ◌≤◌, take, get_or, get_or-take, arith, length-append, ℕ, ◌≡◌, ◌++◌, ◌∷◌, [], Bool, true, false, List, length, Option, Some, None, Vec, Global, refl, sym, ap, ◌∙◌, subst, cond, ⊎_elim}
use Rattle.std.specs.Cmp.Lexicographic.{slice_cmp, nat_list_eq_equiv, bytes_decides}
use Rattle.std.specs.Str.{bytes_eq}
use Rattle.std.specs.BTreeMap.{BTreeMap, get_by, UpdatesBy}
use Rattle.std.specs.Ordering.{nat_cmp, is_eq}
use Rattle.std.proofs.lemmas.Map.Text.{is_eq-slice_cmp}
use Rattle.std.specs.Map.{lookup, IsKeyTest, AreApart, KeepsOthers}
use Rattle.std.proofs.lemmas.Bool.{cases_Bool, cases_lt}
use Rattle.std.proofs.lemmas.Bool.Decides.{nat_tests}
use Rattle.std.specs.List.{position_or_len}
use Rattle.std.proofs.lemmas.List.Sums.{position_or_len_is, fails_before_first}
use Rattle.std.proofs.Math.ListN.{get_or-append}
use Rattle.std.proofs.Math.Seq.{get_or-append_seam, take-append_seam}
use Rattle.std.proofs.lemmas.List.{take-append-le, length-take-le}
use Rattle.abuf_text.specs.Names.{index_of, IsEachOnce}
use Rattle.abuf_text.proofs.Places.{position-push, or_last}

-- what the map has at a name
abbrev pub at_name : {X : Type 0} → BTreeMap (Vec ℕ Global) X → List ℕ → Option X
at_name m name = get_by (λ k. slice_cmp nat_cmp name k.items) m

module _ {K : Type 0} (eq : K → K → Bool) (test : K → Bool) where
  other_entries : {X : Type 0} (old new : List (K × X)) → KeepsOthers eq test old new → (other : K → Bool) → IsKeyTest eq other → AreApart test other → lookup other new ≡ lookup other old
  unfolding KeepsOthers
  other_entries old new h = h

-- two names are compared as equal exactly where they are the same
same_as : (xs ys : List ℕ) → is_eq (slice_cmp nat_cmp xs ys) ≡ bytes_eq xs ys
same_as xs ys = is_eq-slice_cmp xs ys

key_test : (cs xs ys : List ℕ) → is_eq (slice_cmp nat_cmp cs xs) ≡ true → is_eq (slice_cmp nat_cmp cs ys) ≡ is_eq (slice_cmp nat_cmp xs ys)
key_test cs xs ys same = same_as cs ys ∙ nat_list_eq_equiv.congr cs xs ys (sym (same_as cs xs) ∙ same) ∙ sym (same_as xs ys)

apart : (bs cs ks : List ℕ) → bytes_eq bs cs ≡ false → is_eq (slice_cmp nat_cmp bs ks) ≡ true → is_eq (slice_cmp nat_cmp cs ks) ≡ false
apart bs cs ks n y = same_as cs ks ∙ nat_list_eq_equiv.symm cs ks ∙ sym (nat_list_eq_equiv.congr bs ks cs (sym (same_as bs ks) ∙ y)) ∙ n

-- the map was set at a key, and has the others as before
pub at_name-set : {X : Type 0} (name : List ℕ) (key : Vec ℕ Global) (m n : BTreeMap (Vec ℕ Global) X) (w : Option X) → key.items ≡ name
    → UpdatesBy (λ x y. slice_cmp nat_cmp x.items y.items) (λ k. slice_cmp nat_cmp key.items k.items) m n w
    → (other : List ℕ) → at_name n other ≡ cond (bytes_eq name other) w (at_name m other)
at_name-set name key m n w is h other =
    ⊎_elim
    (λ same.
    let e : key.items ≡ other = is ∙ (bytes_decides name other).0 same in
    subst (λ (l : List ℕ). at_name n l ≡ w) e h.1 ∙ rw same refl)
    (λ differs.
    let test : bytes_eq key.items other ≡ false = subst (λ (l : List ℕ). bytes_eq l other ≡ false) (sym is) differs in
    other_entries _ _ _ _ h.3 _ (λ x y. key_test other x.items y.items) (λ k. apart key.items other k.items test) ∙ rw differs refl)
    (cases_Bool (bytes_eq name other))

at_all : (same : Bool) (later : Option ℕ) (n : ℕ) → (same ≡ true → later ≡ None) → cond same (Some n) later ≡ or_last later same n
at_all true later n none = rw (none refl) refl
at_all false None n none = refl
at_all false (Some k) n none = refl

-- the indices of the names, and of one more that is new
pub index_of-push : (name other : List ℕ) (names : List (List ℕ)) → index_of name names ≡ None
    → cond (bytes_eq name other) (Some (length names)) (index_of other names) ≡ index_of other (names ++ name ∷ [])
index_of-push name other names none =
    let flip : bytes_eq other name ≡ bytes_eq name other = nat_list_eq_equiv.symm other name in
    at_all (bytes_eq name other) (index_of other names) (length names) (λ same. subst (λ (l : List ℕ). index_of l names ≡ None) ((bytes_decides name other).0 same) none)
    ∙ ap (λ same. or_last (index_of other names) same (length names)) (sym flip) ∙ sym (position-push (bytes_eq other) names name)

-- a new name leaves each name once
pub each_once-push : (names : List (List ℕ)) (name : List ℕ) → index_of name names ≡ None → IsEachOnce names → IsEachOnce (names ++ name ∷ [])
each_once-push names name none once = λ i here.
    let longer : length (names ++ name ∷ []) ≡ length names + 1 = length-append names (name ∷ []) in
    ⊎_elim
    (λ inside.
    let same : get_or (names ++ name ∷ []) i [] ≡ get_or names i [] = get_or-append names (name ∷ []) [] i inside in
    let front : take i (names ++ name ∷ []) ≡ take i names = take-append-le i names (name ∷ []) (omega arith) in
    rw (same, front) (once i inside))
    (λ past.
    let last : i ≡ length names = omega arith in
    rw (last, get_or-append_seam names name [] [], take-append_seam names (name ∷ [])) none)
    (cases_lt i (length names))

-- a new name has the last index
pub index_of-last : (name : List ℕ) (names : List (List ℕ)) → index_of name names ≡ None → index_of name (names ++ name ∷ []) ≡ Some (length names)
index_of-last name names none =
    let same : bytes_eq name name ≡ true = (bytes_decides name name).1 refl in
    sym (index_of-push name name names none) ∙ ap (λ v. cond v (Some (length names)) (index_of name names)) same

-- a name has the index at which it stands
pub index_of-at : (name : List ℕ) (names : List (List ℕ)) (i : ℕ) → IsEachOnce names → i < length names → get_or names i [] ≡ name → index_of name names ≡ Some i
index_of-at name names i once within is =
    let front = take i names in
    let none : index_of name front ≡ None = subst (λ (n : List ℕ). index_of n front ≡ None) is (once i within) in
    let long : length front ≡ i = length-take-le i names (omega arith) in
    let late : i ≤ position_or_len (bytes_eq name) front = grind (arith, nat_tests) in
    let fails : (k : ℕ) → k < i → bytes_eq name (get_or names k []) ≡ false =
    λ k before. subst (λ (n : List ℕ). bytes_eq name n ≡ false) (get_or-take i names k [] before) (fails_before_first (bytes_eq name) front k [] (omega (arith, late, before))) in
    let at : position_or_len (bytes_eq name) names ≡ i = position_or_len_is (bytes_eq name) names i [] (omega arith) fails (λ _. (bytes_decides name _).1 (sym is)) in
    grind (arith, nat_tests)
