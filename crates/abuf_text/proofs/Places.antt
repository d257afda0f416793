-- The first place that passes a test.
use Rattle.std.proofs.Common.{suc, subst, get_or, option_map, ℕ, ◌≡◌, ◌≤◌, ◌<◌, ◌+◌, length-append, ◌++◌, ◌∷◌, [], Bool, true, false, List, length, refl, ◌∙◌, sym, arith, ⊎_elim, unwrap_or, position, nat_lt, eqb, cond, Option, Some, None}
use Rattle.std.specs.List.{position_or_len}
use Rattle.std.proofs.lemmas.Bool.{cases_Bool}
use Rattle.std.proofs.lemmas.Bool.Decides.{nat_tests}
use Rattle.std.proofs.lemmas.List.Sums.{prefix_len-le-length, passes_at_first}
use Rattle.std.proofs.lemmas.List.Folds.{position_or_len_push}

pub position_or_len-le-length : {X : Type 0} (p : X → Bool) (xs : List X) → position_or_len p xs ≤ length xs
position_or_len-le-length p xs = prefix_len-le-length _ xs

-- the place, or the end where none passes
pub unwrap_or-position : {X : Type 0} (p : X → Bool) (xs : List X) → unwrap_or (position p xs) (length xs) ≡ position_or_len p xs
unwrap_or-position p xs =
    let within = position_or_len-le-length p xs in
    ⊎_elim
    (λ inside. rw inside refl)
    (λ past. rw past (let h : position_or_len p xs ≡ length xs = grind (arith, nat_tests) in sym h))
    (cases_Bool (nat_lt (position_or_len p xs) (length xs)))

some_same : {a b : ℕ} → Some a ≡ Some b → a ≡ b
some_same e = cc

abbrev pub or_last : Option ℕ → Bool → ℕ → Option ℕ
or_last (Some k) here n = Some k
or_last None true n = Some n
or_last None false n = None

-- one more item may be the first that passes
pub position-push : {X : Type 0} (p : X → Bool) (xs : List X) (y : X) → position p (xs ++ y ∷ []) ≡ or_last (position p xs) (p y) (length xs)
position-push p xs y =
    let n = position_or_len p xs in
    let within : n ≤ length xs = position_or_len-le-length p xs in
    let longer : length (xs ++ y ∷ []) ≡ length xs + 1 = length-append xs (y ∷ []) in
    ⊎_elim
    (λ inside.
    let here : n < length xs = grind (arith, nat_tests) in
    let before : eqb n (length xs) ≡ false = grind (arith, nat_tests) in
    let still : nat_lt n (length (xs ++ y ∷ [])) ≡ true = grind (arith, nat_tests) in
    let same : position_or_len p (xs ++ y ∷ []) ≡ n = position_or_len_push p xs y ∙ rw before refl in
    rw same (rw still (rw inside refl)))
    (λ past.
    let end : n ≡ length xs = grind (arith, nat_tests) in
    let at_end : eqb n (length xs) ≡ true = grind (arith, nat_tests) in
    ⊎_elim
    (λ yes.
    let same : position_or_len p (xs ++ y ∷ []) ≡ length xs = position_or_len_push p xs y ∙ rw at_end (rw yes (omega arith)) in
    let still : nat_lt (length xs) (length (xs ++ y ∷ [])) ≡ true = grind (arith, nat_tests) in
    rw same (rw still (rw past (rw yes refl))))
    (λ no.
    let same : position_or_len p (xs ++ y ∷ []) ≡ length xs + 1 = position_or_len_push p xs y ∙ rw at_end (rw no refl) in
    let none : nat_lt (length xs + 1) (length (xs ++ y ∷ [])) ≡ false = grind (arith, nat_tests) in
    rw same (rw none (rw past (rw no refl))))
    (cases_Bool (p y)))
    (cases_Bool (nat_lt n (length xs)))

-- an item in front
pub position-cons : {X : Type 0} (p : X → Bool) (x : X) (xs : List X) → position p (x ∷ xs) ≡ cond (p x) (Some 0) (option_map suc (position p xs))
position-cons p x xs =
    let n = position_or_len p xs in
    ⊎_elim
    (λ yes. let some : nat_lt 0 (length (x ∷ xs)) ≡ true = grind (arith, nat_tests) in rw yes (rw some refl))
    (λ no.
    let one : 1 + n ≡ suc n = omega arith in
    let same : position_or_len p (x ∷ xs) ≡ suc n = rw no one in
    ⊎_elim
    (λ inside. let still : nat_lt (suc n) (length (x ∷ xs)) ≡ true = grind (arith, nat_tests) in rw same (rw no (rw still (rw inside refl))))
    (λ past. let none : nat_lt (suc n) (length (x ∷ xs)) ≡ false = grind (arith, nat_tests) in rw same (rw no (rw none (rw past refl))))
    (cases_Bool (nat_lt n (length xs))))
    (cases_Bool (p x))

-- what stands at the place passes
pub position_passes : {X : Type 0} (p : X → Bool) (xs : List X) (k : ℕ) (d : X) → position p xs ≡ Some k → (k < length xs) × (p (get_or xs k d) ≡ true)
position_passes p xs k d is =
    let n = position_or_len p xs in
    ⊎_elim
    (λ inside.
    let here : n < length xs = grind (arith, nat_tests) in
    let same : n ≡ k = some_same (rw inside at is) in
    subst (λ j. (j < length xs) × (p (get_or xs j d) ≡ true)) same (here, passes_at_first p xs d here))
    (λ past. absurd (let e : None ≡ Some k = rw past at is in cc))
    (cases_Bool (nat_lt n (length xs)))
