-- Numbers written in few digits, and decimal numbers of which only the value counts.
use Rattle.std.specs.Prelude.{◌&&◌, ℕ, ℤ, pos, neg_ℤ, nat_le, nat_lt, List, length, drop, Option, Some, None, Result, Ok, Err, option_map, if◌then◌else◌}
use Rattle.abuf_num.specs.Decimal.{all_digits, is_negative, scaled, spelled_from}
use Rattle.abuf_num.specs.declared.decimal.NumFault.{NumFault}

-- The number that one to `most` digits spell; leading zeros are digits like any other.
abbrev pub whole_number : ℕ → List ℕ → Option ℕ
whole_number most text =
    if nat_lt 0 (length text) && (nat_le (length text) most && all_digits text) then Some (spelled_from 0 text) else None

-- The number with the other sign.
abbrev pub negated : ℕ → ℤ
negated n = neg_ℤ (pos n)

-- An optional `-`, and a number of one to four digits.
abbrev pub signed_number : List ℕ → Option ℤ
signed_number text =
    if is_negative text then option_map negated (whole_number 4 (drop 1 text)) else option_map pos (whole_number 4 text)

-- The number, where there is no fault.
abbrev pub value_if : Result ℤ NumFault → Option ℤ
value_if (Ok z) = Some z
value_if (Err fault) = None

-- A decimal number times k, rounded to the nearest whole number; none where it isn't one, or is out of range.
abbrev pub scaled_number : ℕ → List ℕ → Option ℤ
scaled_number k text = value_if (scaled text k)
