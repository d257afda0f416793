-- Laws of products of whole numbers.
use Rattle.std.proofs.Common.{◌≡◌, ℕ, ◌*◌, ℤ, neg_ℤ, ◌+ℤ◌, ◌*ℤ◌, arith, ap}
use borrow.Author.Differences.{up, down, sum_is_lem, neg_is}
use Rattle.std.proofs.lemmas.Int.{ints}

-- A sum times a number.
pub add_mul : (a b c : ℤ) → (a +ℤ b) *ℤ c ≡ a *ℤ c +ℤ b *ℤ c
add_mul a b c = omega (arith, ints, ap (λ (x : ℕ). x * up c) (sum_is_lem a b), ap (λ (x : ℕ). x * down c) (sum_is_lem a b))

-- A negative times a number.
pub neg_mul : (a c : ℤ) → neg_ℤ a *ℤ c ≡ neg_ℤ (a *ℤ c)
neg_mul a c = omega (arith, ints, ap (λ (x : ℕ). x * up c) (neg_is a).0, ap (λ (x : ℕ). x * down c) (neg_is a).0, ap (λ (x : ℕ). x * up c) (neg_is a).1, ap (λ (x : ℕ). x * down c) (neg_is a).1)
