-- Sets of samples as masks, and totals over them.
use Rattle.std.proofs.Common.{◌≡◌, ℕ, zero, suc, ◌+◌, ◌-◌, ◌*◌, ◌%◌, ◌^◌, ◌<◌, ◌≤◌, Bool, true, false, not, ◌&&◌, if◌then◌else◌, min, List, [], ◌∷◌, slice_index, bit_and, w32, ◌≢◌, true≢false, refl, ap, ap₂, ◌∙◌, sym, arith, ◌==◌}
use Rattle.std.specs.Int.{bit_at, bit_not, trailing_zeros}
use Rattle.std.specs.Int.RustNames.{count_ones}
use Rattle.std.proofs.Math.Nat.{mod-eq_of_lt}
use Rattle.std.proofs.lemmas.Bool.{and_parts, eq-eqb, eqb-true, false_from_ne_true, not-true}
use Rattle.std.proofs.lemmas.Bool.Decides.{nat_tests}
use Rattle.std.proofs.lemmas.Nat.{and_le_l, mod-pow-add, mod_below, ones_cat, pow_below, pow_pos}
use Rattle.std.proofs.lemmas.Nat.Bits.{bit_at-lt, bit_at-zero, bit_at_and, bit_at_above, bit_at_not, bit_at_ones, bit_at-trailing_zeros, same_from_bits_below}
use Rattle.abuf_num.specs.declared.plain.PixelSum.{PixelSum}
use Rattle.abuf_resolve.specs.Sums.{plus, summed}
use Rattle.abuf_resolve.specs.ColourSum.{in_set, sums_where, total}

-- A bit as a truth value.
bit_of : (b : ℕ) → b < 2 → (if b == 1 then 1 else 0) ≡ b
bit_of b l = grind (arith, nat_tests)

-- A bit has as many ones.
one_bit : (b : ℕ) → b < 2 → count_ones b ≡ b
unfolding count_ones
one_bit zero l = refl
one_bit (suc zero) l = refl
one_bit (suc (suc n)) l = absurd (omega arith)

-- How many of the samples 0 to n - 1 the set has.
abbrev pub count_in : ℕ → ℕ → ℕ
count_in set n = total (in_set set) (λ _. 1) n

-- The ones of the mask below 2 ^ n,
ones_below : (set n : ℕ) → count_ones (set % 2 ^ n) ≡ count_in set n
ones_below set zero = let e : set % 2 ^ 0 ≡ 0 = omega arith in ap count_ones e ∙ one_bit 0 (omega arith)
ones_below set (suc n) =
    let next : suc n ≡ 1 + n = omega arith in
    let split : set % 2 ^ suc n ≡ bit_at set n * 2 ^ n + set % 2 ^ n = ap (λ (m : ℕ). set % 2 ^ m) next ∙ mod-pow-add set 1 n in
    ap count_ones split ∙ (ones_cat n (bit_at set n) (set % 2 ^ n) (mod_below set (2 ^ n) (pow_pos n))
    ∙ omega (arith, ones_below set n, one_bit (bit_at set n) (bit_at-lt set n), bit_of (bit_at set n) (bit_at-lt set n)))

-- and of one that has no others.
pub ones_are : (set n : ℕ) → set < 2 ^ n → count_ones set ≡ count_in set n
ones_are set n l = let e : set % 2 ^ n ≡ set = mod-eq_of_lt l in ap count_ones (sym e) ∙ ones_below set n

-- Two bits are 1 where the lower of them is.
both_and : (a b : ℕ) → a < 2 → b < 2 → (min a b == 1) ≡ ((a == 1) && (b == 1))
both_and a b l m = grind (arith, nat_tests)

-- Both sets have a sample where what they share has it.
pub in_both : (a b k : ℕ) → in_set (bit_and a b) k ≡ (in_set a k && in_set b k)
in_both a b k = ap (λ (m : ℕ). m == 1) (bit_at_and a b k) ∙ both_and (bit_at a k) (bit_at b k) (bit_at-lt a k) (bit_at-lt b k)

-- A bit is 1 where the other one isn't.
other : (b : ℕ) → b < 2 → ((1 - b) == 1) ≡ not (b == 1)
other b l = grind (arith, nat_tests)

-- A set without another has a sample where the first has it and the other hasn't.
pub in_rest : (a b k : ℕ) → b < 2 ^ 32 → k < 32 → in_set (bit_and a (bit_not w32 b)) k ≡ (in_set a k && not (in_set b k))
in_rest a b k l m = in_both a (bit_not w32 b) k ∙ ap (λ (v : Bool). in_set a k && v) (ap (λ (c : ℕ). c == 1) (bit_at_not w32 b k l m) ∙ other (bit_at b k) (bit_at-lt b k))

-- ---- totals
-- Tests that agree give one total.
pub total_same : (p q : ℕ → Bool) (v : ℕ → ℕ) (n : ℕ) → ((k : ℕ) → k < n → p k ≡ q k) → total p v n ≡ total q v n
total_same p q v zero h = refl
total_same p q v (suc n) h = ap₂ (λ (t : ℕ) (b : Bool). t + (if b then v n else 0)) (total_same p q v n (λ k l. h k (omega arith))) (h n (omega arith))

-- Nothing that passes gives no total.
pub total_none : (p : ℕ → Bool) (v : ℕ → ℕ) (n : ℕ) → ((k : ℕ) → k < n → p k ≡ false) → total p v n ≡ 0
total_none p v zero h = refl
total_none p v (suc n) h = rw (h n (omega arith)) (omega (arith, total_none p v n (λ k l. h k (omega arith))))

-- How many pass is no more than n.
pub total_le : (p : ℕ → Bool) (n : ℕ) → total p (λ _. 1) n ≤ n
total_le p zero = omega arith
total_le p (suc n) = grind (arith, total_le p n)

-- Those that are left, in two parts.
pub parted : (r s : ℕ → Bool) (n : ℕ) → total r (λ _. 1) n ≡ total (λ k. r k && not (s k)) (λ _. 1) n + total (λ k. r k && s k) (λ _. 1) n
parted r s zero = refl
parted r s (suc n) = grind (arith, parted r s n)

-- Where those of a set that are left have one value, it is added so many times.
pub grown : (r s : ℕ → Bool) (v : ℕ → ℕ) (c n : ℕ) → ((k : ℕ) → k < n → r k ≡ true → s k ≡ true → v k ≡ c)
    → total (λ k. not (r k && not (s k))) v n ≡ total (λ k. not (r k)) v n + total (λ k. r k && s k) (λ _. 1) n * c
grown r s v c zero h = omega arith
grown r s v c (suc n) h = go (grown r s v c n (λ k l. h k (omega arith))) (r n) (s n) refl refl where
  go : total (λ k. not (r k && not (s k))) v n ≡ total (λ k. not (r k)) v n + total (λ k. r k && s k) (λ _. 1) n * c → (a b : Bool) → a ≡ r n → b ≡ s n
      → total (λ k. not (r k && not (s k))) v n + (if not (a && not b) then v n else 0) ≡ total (λ k. not (r k)) v n + (if not a then v n else 0) + (total (λ k. r k && s k) (λ _. 1) n + (if a && b then 1 else 0)) * c
  go e true true f g = let here : v n ≡ c = h n (omega arith) (sym f) (sym g) in omega (arith, e, here)
  go e true false f g = omega (arith, e)
  go e false b f g = omega (arith, e)

-- Where all pass, the totals of the channels are the sums.
pub whole : (p : ℕ → Bool) (colours : ℕ → List ℕ) (n : ℕ) → ((k : ℕ) → k < n → p k ≡ true) → sums_where p colours n ≡ summed colours n
whole p colours zero h = refl
whole p colours (suc n) h = rw (h n (omega arith)) (ap (λ (sum : PixelSum). plus sum (colours n)) (whole p colours n (λ k l. h k (omega arith))))

-- ---- what is left of a set, and what another set has of it
module _ (rest set n : ℕ) (below : rest < 2 ^ n) (few : n ≤ 16) (fits : set < 2 ^ 32) where
  -- What both have.
  abbrev here : ℕ
  here = bit_and rest set

  -- What is left.
  abbrev left : ℕ
  left = bit_and rest (bit_not w32 set)

  -- What is left has no more samples than the set,
  pub left_below : left < 2 ^ n
  left_below = omega (arith, and_le_l rest (bit_not w32 set))

  -- nor has what both have.
  here_below : here < 2 ^ n
  here_below = omega (arith, and_le_l rest set)

  -- The ones of what both have.
  here_count : count_ones here ≡ total (λ k. in_set rest k && in_set set k) (λ _. 1) n
  here_count = ones_are here n here_below ∙ total_same (in_set here) (λ k. in_set rest k && in_set set k) (λ _. 1) n (λ k l. in_both rest set k)

  -- The ones of what is left.
  left_count : count_ones left ≡ total (λ k. in_set rest k && not (in_set set k)) (λ _. 1) n
  left_count = ones_are left n left_below ∙ total_same (in_set left) (λ k. in_set rest k && not (in_set set k)) (λ _. 1) n (λ k l. in_rest rest set k fits (omega arith))

  -- They are those of the whole.
  pub counts : count_ones rest ≡ count_ones left + count_ones here
  counts = ones_are rest n below ∙ (parted (in_set rest) (in_set set) n ∙ ap₂ (λ (a b : ℕ). a + b) (sym left_count) (sym here_count))

  -- Which are at most n.
  pub count_le : count_ones rest ≤ n
  count_le = omega (arith, ones_are rest n below, total_le (in_set rest) n)

  -- A total grows by what both have.
  pub total_with : (v : ℕ → ℕ) (c : ℕ) → ((k : ℕ) → k < n → in_set rest k ≡ true → in_set set k ≡ true → v k ≡ c)
      → total (λ k. not (in_set rest k)) v n + count_ones here * c ≡ total (λ k. not (in_set left k)) v n
  total_with v c h =
      ap (λ (m : ℕ). total (λ k. not (in_set rest k)) v n + m * c) here_count
      ∙ (sym (grown (in_set rest) (in_set set) v c n h)
      ∙ sym (total_same (λ k. not (in_set left k)) (λ k. not (in_set rest k && not (in_set set k))) v n (λ k l. ap not (in_rest rest set k fits (omega arith)))))

-- A set of few samples fits.
pub set_fits : (rest n : ℕ) → rest < 2 ^ n → n ≤ 16 → rest < 2 ^ 32
set_fits rest n l few = omega (arith, pow_below n 32 (omega arith))

-- What is left of a set without itself is nothing.
pub rest_of_itself : (a : ℕ) → a < 2 ^ 32 → bit_and a (bit_not w32 a) ≡ 0
rest_of_itself a l =
    same_from_bits_below 32 (bit_and a (bit_not w32 a)) 0 (omega (arith, and_le_l a (bit_not w32 a))) (omega arith)
    (λ i m. bit_at_and a (bit_not w32 a) i ∙ (ap (min (bit_at a i)) (bit_at_not w32 a i l m) ∙ (omega (arith, bit_at-lt a i) ∙ sym (bit_at-zero i))))

-- At first all samples are left.
pub none_yet : (colours : ℕ → List ℕ) (n : ℕ) → sums_where (λ k. not (in_set (2 ^ n - 1) k)) colours n ≡ record { channels = 0 ∷ 0 ∷ 0 ∷ [] }
none_yet colours n = λ i. record { channels = none (λ k. slice_index (colours k) 0) i ∷ none (λ k. slice_index (colours k) 1) i ∷ none (λ k. slice_index (colours k) 2) i ∷ [] } where
  none : (v : ℕ → ℕ) → total (λ k. not (in_set (2 ^ n - 1) k)) v n ≡ 0
  none v = total_none (λ k. not (in_set (2 ^ n - 1) k)) v n (λ k l. ap (λ (b : ℕ). not (b == 1)) (bit_at_ones n k l))

-- ---- members
-- A sample that two sets share is one of each.
pub of_both : (a b k : ℕ) → in_set (bit_and a b) k ≡ true → (in_set a k ≡ true) × (in_set b k ≡ true)
of_both a b k e = and_parts (in_set a k) (in_set b k) (sym (in_both a b k) ∙ e)

-- One of each is shared.
pub to_both : (a b k : ℕ) → in_set a k ≡ true → in_set b k ≡ true → in_set (bit_and a b) k ≡ true
to_both a b k e f = in_both a b k ∙ ap₂ (λ (v w : Bool). v && w) e f

-- A sample that is left is one of the set, and none of the other.
pub of_left : (a b k : ℕ) → b < 2 ^ 32 → k < 32 → in_set (bit_and a (bit_not w32 b)) k ≡ true → (in_set a k ≡ true) × (in_set b k ≡ false)
of_left a b k l m e =
    let both = and_parts (in_set a k) (not (in_set b k)) (sym (in_rest a b k l m) ∙ e) in
    (both.0, not-true (in_set b k) both.1)

-- One of the set that isn't of the other is left.
pub to_left : (a b k : ℕ) → b < 2 ^ 32 → k < 32 → in_set a k ≡ true → in_set b k ≡ false → in_set (bit_and a (bit_not w32 b)) k ≡ true
to_left a b k l m e f = in_rest a b k l m ∙ ap₂ (λ (v w : Bool). v && not w) e f

-- A sample of a set of few is one of these.
pub member_below : (set n k : ℕ) → set < 2 ^ n → in_set set k ≡ true → k < n
member_below set n k l e =
    let none : n ≤ k → bit_at set k ≡ 0 = bit_at_above set n k l in
    let one : bit_at set k ≡ 1 = eqb-true (bit_at set k) 1 e in
    grind (arith, none, one)

-- Fewer are left where one is taken.
pub fewer_left : (a b k : ℕ) → b < 2 ^ 32 → k < 32 → in_set a k ≡ true → in_set b k ≡ true → bit_and a (bit_not w32 b) < a
fewer_left a b k l m e f =
    let differs : a ≢ bit_and a (bit_not w32 b) = λ same. true≢false (sym f ∙ (of_left a b k l m (ap (λ (c : ℕ). in_set c k) (sym same) ∙ e)).1) in
    omega (arith, and_le_l a (bit_not w32 b))

-- One of the second that they don't share is none of the first.
pub apart_from : (a b k : ℕ) → in_set (bit_and a b) k ≡ false → in_set b k ≡ true → in_set a k ≡ false
apart_from a b k e f = false_from_ne_true (in_set a k) (λ g. true≢false (sym (to_both a b k g f) ∙ e))

-- The first sample of a set.
pub lowest : (rest n : ℕ) → 0 < rest → rest < 2 ^ n → n ≤ 16 → (trailing_zeros w32 rest < n) × (in_set rest (trailing_zeros w32 rest) ≡ true)
lowest rest n some l few =
    let is = bit_at-trailing_zeros w32 rest some (set_fits rest n l few) in
    let has : in_set rest (trailing_zeros w32 rest) ≡ true = eq-eqb (bit_at rest (trailing_zeros w32 rest)) 1 is.1 in
    (member_below rest n (trailing_zeros w32 rest) l has, has)
