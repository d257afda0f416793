-- Sums and counts over lists.
use Rattle.std.proofs.Common.{◌≡◌, ◌≢◌, ℕ, zero, suc, ◌+◌, ◌<◌, ◌≤◌, Bool, true, false, cond, eqb, List, [], ◌∷◌, ◌++◌, length, set, filter, sym, refl, ap, ◌∙◌, subst, arith, ⊎_elim, eq-eqb, ne_eqb, sum_by, count_by, IsPermutation}
use Rattle.std.specs.List.{range_with_len}
use mathlib.Core.Option.{some, some-injective, some-ne-none}
use lib.ListN.{get_elem?}
use Rattle.std.proofs.lemmas.Bool.Decides.{nat_tests}
use Rattle.std.proofs.lemmas.Bool.{cases_eq}
use Rattle.std.proofs.lemmas.List.Sums.{sum_by-cons}
use Rattle.std.proofs.lemmas.List.Sorted.{IsPermutation-refl, IsPermutation-sym, IsPermutation-cons, IsPermutation-trans, IsPermutation-middle, sum_by-IsPermutation}
use Rattle.abuf_num.specs.Counting.{below, times}

module _ {A : Type 0} where
  -- With one element replaced the sum differs by what f is of that element.
  pub sum_set : (f : A → ℕ) (l : List A) (i : ℕ) (v w : A) → get_elem? l i ≡ some v → sum_by f (set l i w) + f v ≡ sum_by f l + f w
  sum_set f [] i v w e = absurd (some-ne-none v (sym e))
  sum_set f (x ∷ xs) zero v w e = let is : f x ≡ f v = ap f (some-injective x v e) in omega (arith, sum_by-cons f x xs, sum_by-cons f w xs)
  sum_set f (x ∷ xs) (suc i) v w e = omega (arith, sum_set f xs i v w e, sum_by-cons f x xs, sum_by-cons f x (set xs i w))

  -- What f is of an element is at most the sum.
  pub sum_le : (f : A → ℕ) (l : List A) (i : ℕ) (v : A) → get_elem? l i ≡ some v → f v ≤ sum_by f l
  sum_le f [] i v e = absurd (some-ne-none v (sym e))
  sum_le f (x ∷ xs) zero v e = let is : f x ≡ f v = ap f (some-injective x v e) in omega (arith, sum_by-cons f x xs)
  sum_le f (x ∷ xs) (suc i) v e = omega (arith, sum_le f xs i v e, sum_by-cons f x xs)

  -- two of them
  pub sum_two : (f : A → ℕ) (l : List A) (i j : ℕ) (v w : A) → i ≢ j → get_elem? l i ≡ some v → get_elem? l j ≡ some w → f v + f w ≤ sum_by f l
  sum_two f [] i j v w n e d = absurd (some-ne-none v (sym e))
  sum_two f (x ∷ xs) zero zero v w n e d = absurd (n refl)
  sum_two f (x ∷ xs) zero (suc j) v w n e d = let is : f x ≡ f v = ap f (some-injective x v e) in omega (arith, sum_le f xs j w d, sum_by-cons f x xs)
  sum_two f (x ∷ xs) (suc i) zero v w n e d = let is : f x ≡ f w = ap f (some-injective x w d) in omega (arith, sum_le f xs i v e, sum_by-cons f x xs)
  sum_two f (x ∷ xs) (suc i) (suc j) v w n e d = omega (arith, sum_two f xs i j v w (λ h. n (ap suc h)) e d, sum_by-cons f x xs)

  -- A count of an element and more, by the first.
  pub count_by-cons : (p : A → Bool) (x : A) (xs : List A) → count_by p (x ∷ xs) ≡ cond (p x) 1 0 + count_by p xs
  count_by-cons p x xs = sum_by-cons (λ y. cond (p y) 1 0) x xs

  -- The sum of sums is the sum of both.
  pub sum_both : (f g : A → ℕ) (l : List A) → sum_by (λ x. f x + g x) l ≡ sum_by f l + sum_by g l
  sum_both f g [] = refl
  sum_both f g (x ∷ xs) = omega (arith, sum_both f g xs, sum_by-cons (λ y. f y + g y) x xs, sum_by-cons f x xs, sum_by-cons g x xs)

-- A number stands in two lists as often as in both together.
pub times-append : (n : ℕ) (l m : List ℕ) → times n (l ++ m) ≡ times n l + times n m
times-append n [] m = omega arith
times-append n (x ∷ xs) m = let r = times-append n xs m in omega arith

-- How often a number stands in a list is a sum over the list.
times_sum : (n : ℕ) (xs : List ℕ) → times n xs ≡ sum_by (λ x. cond (eqb x n) 1 0) xs
times_sum n [] = refl
times_sum n (x ∷ xs) = let r = times_sum n xs in omega (arith, sum_by-cons (λ x. cond (eqb x n) 1 0) x xs)

-- Whatever the order of a list, each number stands in it as often.
pub times_permuted : (n : ℕ) (xs ys : List ℕ) → IsPermutation xs ys → times n xs ≡ times n ys
times_permuted n xs ys p = times_sum n xs ∙ (sym (sum_by-IsPermutation (λ x. cond (eqb x n) 1 0) xs ys p) ∙ sym (times_sum n ys))

-- A number stands among those that pass a test as often as before where it passes, and else never.
pub times_kept : (p : ℕ → Bool) (n : ℕ) (xs : List ℕ) → times n (filter p xs) ≡ cond (p n) (times n xs) 0
times_kept p n [] = elim (p n) as (λ b. times n [] ≡ cond b 0 0) [ true ↦ refl | false ↦ refl ]
times_kept p n (x ∷ xs) = pick (p x) (p n) (λ (e : x ≡ n). ap p e) (times_kept p n xs)
  where
    pick : (b c : Bool) → (x ≡ n → b ≡ c) → times n (filter p xs) ≡ cond c (times n xs) 0 → times n (cond b (x ∷ filter p xs) (filter p xs)) ≡ cond c (times n (x ∷ xs)) 0
    pick true true s r = omega arith
    pick true false s r = grind (arith, nat_tests)
    pick false true s r = grind (arith, nat_tests)
    pick false false s r = r

-- One more count is one more number below it.
pub below_more : (n c : ℕ) → cond (eqb c n) 1 0 + below n c ≡ below n (c + 1)
below_more n c = grind (arith, nat_tests)

-- A number below the count counts as one,
pub below_yes : (n c : ℕ) → n < c → below n c ≡ 1
below_yes n c h = grind (arith, nat_tests)

-- and any other as none.
pub below_no : (n c : ℕ) → c ≤ n → below n c ≡ 0
below_no n c h = grind (arith, nat_tests)

-- It counts for at most one.
pub below_le : (n c : ℕ) → below n c ≤ 1
below_le n c = grind (arith, nat_tests)

-- If it counts, it is below.
pub below_from : (n c : ℕ) → 0 < below n c → n < c
below_from n c h = grind (arith, nat_tests)

-- A range has each of its numbers once.
pub times_range : (n a count : ℕ) → times n (range_with_len a count) + below n a ≡ below n (a + count)
times_range n a zero = let e : a ≡ a + 0 = omega arith in let b = ap (below n) e in omega arith
times_range n a (suc count) = let r = times_range n (a + 1) count in let m = below_more n a in let e : a + 1 + count ≡ a + suc count = omega arith in let b = ap (below n) e in omega arith

-- So the numbers from 0 on up to a count have each number below it once.
pub times_first : (n count : ℕ) → times n (range_with_len 0 count) ≡ below n count
times_first n count = let r = times_range n 0 count in let z = below_no n 0 (omega arith) in let e : 0 + count ≡ count = omega arith in let b = ap (below n) e in omega arith

module _ {A : Type 0} where
  -- Where a sum is 0, so is the sum of what is 0 with its values.
  sum_none : (f g : A → ℕ) → ((u : A) → g u ≡ 0 → f u ≡ 0) → (l : List A) → sum_by g l ≡ 0 → sum_by f l ≡ 0
  sum_none f g h [] e = refl
  sum_none f g h (x ∷ xs) e = let c = sum_by-cons g x xs in omega (arith, h x (omega arith), sum_none f g h xs (omega arith), sum_by-cons f x xs)

  -- one has all of g, and who has nothing of g has nothing of f
  pub sum_only : (f g : A → ℕ) → ((u : A) → g u ≡ 0 → f u ≡ 0) → (l : List A) (i : ℕ) (v : A) → get_elem? l i ≡ some v → sum_by g l ≡ g v → sum_by f l ≡ f v
  sum_only f g h [] i v e d = absurd (some-ne-none v (sym e))
  sum_only f g h (x ∷ xs) zero v e d = let is = some-injective x v e in let a = ap f is in let b = ap g is in let k = sum_by-cons g x xs in
      omega (arith, sum_none f g h xs (omega arith), sum_by-cons f x xs)
  sum_only f g h (x ∷ xs) (suc i) v e d = let m = sum_le g xs i v e in let k = sum_by-cons g x xs in
      omega (arith, h x (omega arith), sum_only f g h xs i v e (omega arith), sum_by-cons f x xs)

-- it stands somewhere
pub split_at : (n : ℕ) (ys : List ℕ) → 0 < times n ys → (front : List ℕ) × (back : List ℕ) × (ys ≡ front ++ n ∷ back)
split_at n [] h = absurd (omega arith)
split_at n (y ∷ ys) h = ⊎_elim (λ (e : y ≡ n). ([], ys, ap (λ (z : ℕ). z ∷ ys) e))
    (λ (e : y ≢ n). let t = ap (λ (b : Bool). cond {A = ℕ} b 1 0) (ne_eqb y n e) in let r = split_at n ys (omega arith) in (y ∷ r.0, r.1, ap (λ (l : List ℕ). y ∷ l) r.2)) (cases_eq y n)

-- A list in which no number stands is empty.
pub none_in : (ys : List ℕ) → ((n : ℕ) → times n ys ≡ 0) → ys ≡ []
none_in [] h = refl
none_in (y ∷ ys) h = let t = ap (λ (b : Bool). cond {A = ℕ} b 1 0) (eq-eqb y y refl) in let a = h y in absurd (omega arith)

-- Two lists in which each number stands as often are permutations.
pub same_times : (xs ys : List ℕ) → ((n : ℕ) → times n xs ≡ times n ys) → IsPermutation xs ys
same_times [] ys h = subst (λ (l : List ℕ). IsPermutation [] l) (sym (none_in ys (λ n. sym (h n)))) (IsPermutation-refl [])
same_times (x ∷ xs) ys h = let t = ap (λ (b : Bool). cond {A = ℕ} b 1 0) (eq-eqb x x refl) in let a = h x in let s = split_at x ys (omega arith) in
    let rest : IsPermutation xs (s.0 ++ s.1) = same_times xs (s.0 ++ s.1) (λ n. let b = h n in let c = ap (times n) s.2 in let d = times-append n s.0 (x ∷ s.1) in let e = times-append n s.0 s.1 in omega arith) in
    subst (λ (l : List ℕ). IsPermutation (x ∷ xs) l) (sym s.2) (IsPermutation-trans (x ∷ xs) (x ∷ (s.0 ++ s.1)) (s.0 ++ x ∷ s.1) (IsPermutation-cons x xs (s.0 ++ s.1) rest) (IsPermutation-sym (s.0 ++ x ∷ s.1) (x ∷ (s.0 ++ s.1)) (IsPermutation-middle s.0 x s.1)))

-- All numbers are below this one.
abbrev pub Under : ℕ → List ℕ → Type 0
Under m [] = Unit {0}
Under m (n ∷ ns) = (n < m) × Under m ns

-- The numbers other than this one.
abbrev without : ℕ → List ℕ → List ℕ
without m [] = []
without m (n ∷ ns) = cond (eqb n m) (without m ns) (n ∷ without m ns)

-- A number that is taken out shortens a list by as often as it stood there.
length_without : (m : ℕ) (ns : List ℕ) → length ns ≡ length (without m ns) + times m ns
length_without m [] = refl
length_without m (n ∷ ns) = let r = length_without m ns in ⊎_elim (λ (h : n ≡ m). let b = eq-eqb n m h in let t = ap (λ (b : Bool). cond {A = ℕ} b 1 0) b in let u = ap (λ (b : Bool). length (cond b (without m ns) (n ∷ without m ns))) b in omega arith)
    (λ (h : n ≢ m). let b = ne_eqb n m h in let t = ap (λ (b : Bool). cond {A = ℕ} b 1 0) b in let u = ap (λ (b : Bool). length (cond b (without m ns) (n ∷ without m ns))) b in omega arith) (cases_eq n m)

-- No number stands more often without another.
times_without : (k m : ℕ) (ns : List ℕ) → times k (without m ns) ≤ times k ns
times_without k m [] = omega arith
times_without k m (n ∷ ns) = let r = times_without k m ns in ⊎_elim (λ (h : n ≡ m). let b = eq-eqb n m h in let u = ap (λ (b : Bool). times k (cond b (without m ns) (n ∷ without m ns))) b in omega arith)
    (λ (h : n ≢ m). let b = ne_eqb n m h in let u = ap (λ (b : Bool). times k (cond b (without m ns) (n ∷ without m ns))) b in omega arith) (cases_eq n m)

-- Numbers below the next of a number are below it without it.
under_without : (m : ℕ) (ns : List ℕ) → Under (suc m) ns → Under m (without m ns)
under_without m [] u = tt
under_without m (n ∷ ns) u = let r = under_without m ns u.1 in let l = u.0 in ⊎_elim (λ (h : n ≡ m). subst (λ (b : Bool). Under m (cond b (without m ns) (n ∷ without m ns))) (sym (eq-eqb n m h)) r)
    (λ (h : n ≢ m). subst (λ (b : Bool). Under m (cond b (without m ns) (n ∷ without m ns))) (sym (ne_eqb n m h)) (omega arith, r)) (cases_eq n m)

-- as many different numbers below m are at most m
pub pigeons : (m : ℕ) (ns : List ℕ) → Under m ns → ((n : ℕ) → times n ns ≤ 1) → length ns ≤ m
pigeons zero [] u t = omega arith
pigeons zero (n ∷ ns) u t = let l = u.0 in absurd (omega arith)
pigeons (suc m) ns u t = let r = pigeons m (without m ns) (under_without m ns u) (λ n. let a = times_without n m ns in let b = t n in omega arith) in let l = length_without m ns in let o = t m in omega arith
