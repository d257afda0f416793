-- Rounding a quotient to the nearest whole number.
use Rattle.std.proofs.Common.{◌≡◌, ℕ, zero, suc, ◌+◌, ◌*◌, ◌/◌, ◌%◌, ◌<◌, ◌≤◌, ℤ, pos, negsuc, ◌+ℤ◌, ◌-ℤ◌, ◌<ℤ◌, ◌≤ℤ◌, neg_ℤ, unsigned_abs, int_div, int_rem, arith, refl, ap, sym, FitsSigned, mul-le-mul_left, div-add-mod'}
use Rattle.std.proofs.lemmas.Int.{ints}
use Rattle.std.proofs.lemmas.Nat.{le-div, div_below, mod_below}
use Rattle.std.specs.Int.{w128}
use Rattle.abuf_num.specs.Division.{nearest, round_div}

-- where twice the rest is below the divisor, the nearest number is the quotient
pub nearest_low : (n k : ℕ) → 0 < k → n % k + n % k < k → nearest n k ≡ n / k
nearest_low n k h r =
    let low : n / k ≤ nearest n k = le-div (n / k) (2 * n + k) (2 * k) (omega arith) (omega arith) in
    let high : nearest n k < n / k + 1 = div_below (2 * n + k) (2 * k) (n / k + 1) (omega arith) (omega arith) in
    omega arith

-- and where twice the rest is at least the divisor, it is one more
pub nearest_high : (n k : ℕ) → 0 < k → k ≤ n % k + n % k → nearest n k ≡ n / k + 1
nearest_high n k h r =
    let low : n / k + 1 ≤ nearest n k = le-div (n / k + 1) (2 * n + k) (2 * k) (omega arith) (omega arith) in
    let high : nearest n k < n / k + 2 = div_below (2 * n + k) (2 * k) (n / k + 2) (omega arith) (omega arith) in
    omega arith

-- a negated number is as far from 0
pub abs_neg : (n : ℕ) → unsigned_abs (neg_ℤ (pos n)) ≡ n
abs_neg zero = refl
abs_neg (suc n) = refl

-- what `/` and `%` give, where twice the rest is below the divisor
pub round_near : (n m s : ℤ) → pos 0 <ℤ m → s ≡ pos (unsigned_abs (int_rem n m)) → s <ℤ (m -ℤ s) → int_div n m ≡ round_div n m
round_near n (negsuc k) s h e l = absurd h.lt
round_near (pos n) (pos k) s h e l = ap pos (sym (nearest_low n k (omega (arith, ints)) (omega (arith, ints))))
round_near (negsuc n) (pos k) s h e l = ap (λ (x : ℕ). neg_ℤ (pos x)) (sym (nearest_low (suc n) k (omega (arith, ints)) (omega (arith, ints, abs_neg (suc n % k)))))

-- the same where it is not, of numbers that are not negative
pub round_up : (n m s : ℤ) → pos 0 <ℤ m → pos 0 ≤ℤ n → s ≡ pos (unsigned_abs (int_rem n m)) → (m -ℤ s) ≤ℤ s → int_div n m +ℤ pos 1 ≡ round_div n m
round_up n (negsuc k) s h g e l = absurd h.lt
round_up (negsuc n) (pos k) s h g e l = absurd g.le
round_up (pos n) (pos k) s h g e l = omega (arith, ints, nearest_high n k (omega (arith, ints)) (omega (arith, ints)))

-- and of negative numbers
pub round_down : (n m s : ℤ) → pos 0 <ℤ m → n <ℤ pos 0 → s ≡ pos (unsigned_abs (int_rem n m)) → (m -ℤ s) ≤ℤ s → int_div n m -ℤ pos 1 ≡ round_div n m
round_down n (negsuc k) s h g e l = absurd h.lt
round_down (pos n) (pos k) s h g e l = omega (arith, ints)
round_down (negsuc n) (pos k) s h g e l = omega (arith, ints, nearest_high (suc n) k (omega (arith, ints)) (omega (arith, ints, abs_neg (suc n % k))))

-- the quotient leaves room for one more, since the divisor is at least 2
pub down_fits : (n m s : ℤ) → FitsSigned w128 n → pos 0 <ℤ m → n <ℤ pos 0 → s ≡ pos (unsigned_abs (int_rem n m)) → (m -ℤ s) ≤ℤ s → FitsSigned w128 (int_div n m -ℤ pos 1)
down_fits n (negsuc k) s f h g e l = absurd h.lt
down_fits (pos n) (pos k) s f h g e l = omega (arith, ints)
down_fits (negsuc n) (pos k) s f h g e l =
    let r : k ≤ suc n % k + suc n % k = omega (arith, ints, abs_neg (suc n % k)) in
    let b : suc n % k < k = mod_below (suc n) k (omega (arith, ints)) in
    let two : 2 ≤ k = omega arith in
    omega (arith, ints, f.sfits, mul-le-mul_left (suc n / k) two, div-add-mod' (suc n) k)
