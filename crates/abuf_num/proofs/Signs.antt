-- The sign and the limit of a rounded quotient.
use Rattle.std.proofs.Common.{◌≡◌, ℕ, zero, suc, ◌<◌, pos, neg_ℤ, Bool, true, false, refl, arith}
use Rattle.std.proofs.Math.Nat.{div-eq_of_lt}
use Rattle.abuf_num.specs.Division.{nearest, round_div}
use Rattle.abuf_num.specs.Decimal.{with_sign, in_range}
use Rattle.abuf_num.specs.Size.{limited, result_of}
use Rattle.abuf_num.proofs.Rounding.{abs_neg}

-- a size within the limit is a result within the limit
in_range_plus : (m : ℕ) → result_of false (limited m) ≡ in_range (pos m)
in_range_plus m = grind arith

-- the same of a negative result
in_range_minus : (m : ℕ) → result_of true (limited m) ≡ in_range (neg_ℤ (pos m))
in_range_minus m = rw (abs_neg m) (grind arith)

-- the limit of a rounded size is the limit of the rounded quotient
pub signed_in_range : (negative : Bool) (n d : ℕ) → 0 < d → result_of negative (limited (nearest n d)) ≡ in_range (round_div (with_sign negative n) (pos d))
signed_in_range false n d h = in_range_plus (nearest n d)
signed_in_range true zero d h =
    let none : nearest 0 d ≡ 0 = div-eq_of_lt (omega arith) in
    rw none refl
signed_in_range true (suc n) d h = in_range_minus (nearest (suc n) d)
