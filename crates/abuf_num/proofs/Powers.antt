-- Powers of ten against the limits.
use Rattle.std.proofs.Common.{◌≡◌, ℕ, ◌+◌, ◌*◌, ◌/◌, ◌^◌, ◌<◌, ◌≤◌, ◌⊎◌, Some, None, false, true, nat_le, List, length, get_or, add-one, refl, sym, ◌∙◌, arith, ⊎_elim}
use Rattle.std.proofs.Math.Nat.{pow-le-pow_right, pow-suc, div-eq_of_lt, mul-le-mul, mul-le-mul_left}
use Rattle.std.proofs.lemmas.Bool.{cases_lt, false≢true}
use Rattle.std.proofs.lemmas.List.Folds.{list_all_at}
use Rattle.std.proofs.lemmas.Bool.Decides.{nat_tests}
use Rattle.abuf_num.specs.Division.{nearest}
use Rattle.abuf_num.specs.Size.{limited}
use Rattle.abuf_num.specs.Decimal.{is_digit, all_digits}

-- a greater exponent gives a greater power
pub pow_le : (a b : ℕ) → a ≤ b → 10 ^ a ≤ 10 ^ b
pow_le a b h = pow-le-pow_right {n = 10} (omega arith) h

-- a power is at least 1
pub pow_pos : (k : ℕ) → 1 ≤ 10 ^ k
pow_pos k = pow_le 0 k (omega arith)

-- a number that is far below half of the divisor
pub rounds_to_zero : (n d : ℕ) → n < 2 ^ 116 → 36 ≤ d → Some 0 ≡ limited (nearest n (10 ^ d))
rounds_to_zero n d small far =
    let big : 10 ^ 36 ≤ 10 ^ d = pow_le 36 d far in
    let gone : (2 * n + 10 ^ d) / (2 * 10 ^ d) ≡ 0 = div-eq_of_lt (omega arith) in
    rw gone refl

-- a number that any or some power of ten takes past the limit
pub too_large : (n up : ℕ) → 0 < n → (2147483647 < n) ⊎ (10 < up) → None ≡ limited (n * 10 ^ up)
too_large n up some far =
    let one = pow_pos up in
    let past : 2147483647 < n * 10 ^ up = ⊎_elim
    (λ large. let h : n * 1 ≤ n * 10 ^ up = mul-le-mul_left n one in omega arith)
    (λ high. let h : 1 * 10 ^ 11 ≤ n * 10 ^ up = mul-le-mul {n₁ = 1} {m₁ = 10 ^ 11} {n₂ = n} {m₂ = 10 ^ up} (omega arith) (pow_le 11 up high) in omega arith)
    far in
    let not_within : nat_le (n * 10 ^ up) 2147483647 ≡ false = grind (arith, nat_tests) in
    rw not_within refl

-- one more digit
pub digit_fits : (n d k : ℕ) → n < 10 ^ k → d ≤ 9 → 10 * n + d < 10 ^ (k + 1)
digit_fits n d k small digit = rw (add-one, pow-suc) (omega arith)

-- a byte past `9` is no digit
high_no_digit : (b : ℕ) → 57 < b → is_digit b ≡ false
high_no_digit b high = grind (arith, nat_tests)

-- each byte of digits is at most `9`
pub digit_at : (xs : List ℕ) (i : ℕ) → all_digits xs ≡ true → i < length xs → get_or xs i 0 ≤ 57
digit_at xs i all here =
    ⊎_elim
    (λ high. absurd (false≢true (sym (list_all_at is_digit xs i 0 here (high_no_digit (get_or xs i 0) high)) ∙ all)))
    (λ low. low)
    (cases_lt 57 (get_or xs i 0))
