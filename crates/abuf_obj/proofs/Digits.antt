-- How large a number of few digits is.
use Rattle.std.proofs.Common.{ℕ, ◌≡◌, ◌+◌, ◌-◌, ◌*◌, ◌^◌, ◌<◌, ◌≤◌, List, length, get_or, drop, drop-cons, add-one, arith}
use Rattle.std.proofs.lemmas.Bool.Decides.{nat_tests}
use Rattle.abuf_obj.specs.Elements.{spelled_from}
use Rattle.std.proofs.Math.Nat.{pow-suc, pow-le-pow_right}

-- one more digit
pub digit_fits : (n d k : ℕ) → n < 10 ^ k → d ≤ 9 → 10 * n + d < 10 ^ (k + 1)
digit_fits n d k small digit = rw (add-one, pow-suc) (omega arith)

pub short_fits : (k : ℕ) → k ≤ 9 → 10 ^ k ≤ 1000000000
short_fits k short = pow-le-pow_right {n = 10} (omega arith) short

-- one digit is read
pub spelled_from-at : (n : ℕ) (xs : List ℕ) (i : ℕ) → i < length xs → 48 ≤ get_or xs i 0 → get_or xs i 0 ≤ 57
    → spelled_from (10 * n + (get_or xs i 0 - 48)) (drop (i + 1) xs) ≡ spelled_from n (drop i xs)
spelled_from-at n xs i here low high = rw (drop-cons xs i 0 here, add-one) (grind (arith, nat_tests))
