-- A quotient by an estimate from a reciprocal, which is too low by one at most.
use Rattle.std.proofs.Common.{◌≡◌, ℕ, ◌+◌, ◌-◌, ◌*◌, ◌/◌, ◌^◌, ◌<◌, ◌≤◌, arith, sym, ◌∙◌, ap, div-add-mod'}
use Rattle.std.proofs.lemmas.Nat.{mod_below, mul-le, div-mul-add}
use Rattle.std.proofs.Math.Nat.{lt_of_mul-lt-mul_left}

-- with w = 2 ^ 64: the inverse i of d is (w - 1) / d, the estimate e is n * i / w
module _ (n d i e w : ℕ) (some : 0 < d) (small : n ≤ w) (w_some : 0 < w) (low : i * d ≤ w - 1) (high : w - 1 < i * d + d) (e_low : e * w ≤ n * i) (e_high : n * i < e * w + w) where
  -- The estimate is not above the quotient.
  pub estimate_low : e * d ≤ n
  estimate_low =
      let a = mul-le (e * w) d (n * i) d e_low (omega arith) in
      let b = mul-le n (i * d) n w (omega arith) (omega arith) in
      let c : w * (e * d) < w * (n + 1) = omega arith in
      let r : e * d < n + 1 = lt_of_mul-lt-mul_left w c in
      omega arith

  -- And at most one below it.
  pub estimate_high : n < (e + 2) * d
  estimate_high =
      let a = mul-le (n * i + 1) d (e * w + w) d (omega arith) (omega arith) in
      let b = mul-le n w n (i * d + d) (omega arith) (omega arith) in
      let c = mul-le n d w d (omega arith) (omega arith) in
      let f : w * n < w * ((e + 2) * d) = omega arith in
      lt_of_mul-lt-mul_left w f

-- the estimate of a quotient
pub record IsEstimate (n d e : ℕ) : Type 0 where
  pub low : e * d ≤ n
  pub high : n < (e + 2) * d

-- The product with a reciprocal in units of 2 ^ -64 is an estimate.
pub is_estimate : (n d i : ℕ) → 0 < d → n < 2 ^ 64 → i ≡ 18446744073709551615 / d → IsEstimate n d (n * i / 2 ^ 64)
is_estimate n d i some small e =
    let f = div-add-mod' 18446744073709551615 d in
    let g = mod_below 18446744073709551615 d some in
    let h = div-add-mod' (n * i) (2 ^ 64) in
    let k = mod_below (n * i) (2 ^ 64) (omega arith) in
    let low : i * d ≤ 18446744073709551615 = rw e (omega arith) in
    let high : 18446744073709551615 < i * d + d = rw e (omega arith) in
    record {
      low = estimate_low n d i (n * i / 2 ^ 64) (2 ^ 64) some (omega arith) (omega arith) low high (omega arith) (omega arith);
      high = estimate_high n d i (n * i / 2 ^ 64) (2 ^ 64) some (omega arith) (omega arith) low high (omega arith) (omega arith);
    }

-- and what it makes of the quotient
pub quotient_up : (n d e : ℕ) → 0 < d → IsEstimate n d e → d ≤ n - e * d → e + 1 ≡ n / d
quotient_up n d e some h l =
    let r : n - e * d - d < d = omega (arith, h.low, h.high) in
    let s : n ≡ (e + 1) * d + (n - e * d - d) = omega (arith, h.low) in
    sym (ap (λ (m : ℕ). m / d) s ∙ div-mul-add (e + 1) d (n - e * d - d) r)

-- Where the rest is below the divisor, it is the quotient.
pub quotient_same : (n d e : ℕ) → 0 < d → IsEstimate n d e → n - e * d < d → e ≡ n / d
quotient_same n d e some h l =
    let s : n ≡ e * d + (n - e * d) = omega (arith, h.low) in
    sym (ap (λ (m : ℕ). m / d) s ∙ div-mul-add e d (n - e * d) l)
