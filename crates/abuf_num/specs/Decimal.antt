-- Decimal numbers as Wavefront OBJ and MTL write them, and their value times a whole number.
use Rattle.std.specs.Prelude.{◌==◌, ◌&&◌, ◌||◌, ◌+◌, ◌*◌, ◌-◌, ◌^◌, ◌-ℤ◌, ℕ, ℤ, pos, negsuc, neg_ℤ, unsigned_abs, Bool, true, false, nat_le, nat_lt, List, [], length, take, drop, position, slice_index, fold, Option, Some, None, Result, Ok, Err, if◌then◌else◌}
use Rattle.std.specs.List.{list_all}
use Rattle.abuf_num.specs.Division.{round_div}
use Rattle.abuf_num.specs.declared.limits.TheConstants.{MAX_COORDINATE}
use Rattle.abuf_num.specs.declared.decimal.NumFault.{NumFault}
use Rattle.abuf_num.specs.declared.decimal.NumFault.TheVariants.{Form, Digits, Range}

-- the byte is a decimal digit
abbrev pub is_digit : ℕ → Bool
is_digit b = nat_le 48 b && nat_le b 57

abbrev pub all_digits : List ℕ → Bool
all_digits = list_all is_digit

-- `e` or `E`
abbrev pub is_mark : ℕ → Bool
is_mark b = b == 101 || b == 69

abbrev pub is_point : ℕ → Bool
is_point b = b == 46

-- the text begins with `-` (45)
abbrev pub is_negative : List ℕ → Bool
is_negative text = slice_index text 0 == 45

-- the text without a first `-` or `+` (43)
abbrev pub without_sign : List ℕ → List ℕ
without_sign text = if slice_index text 0 == 45 || slice_index text 0 == 43 then drop 1 text else text

-- what stands before and after that place
abbrev pub cut_to : Option ℕ → List ℕ → List ℕ × Option (List ℕ)
cut_to None text = (text, None)
cut_to (Some k) text = (take k text, Some (drop (k + 1) text))

-- what stands before and after the first such byte, if there is one
abbrev pub cut_by : (ℕ → Bool) → List ℕ → List ℕ × Option (List ℕ)
cut_by p text = cut_to (position p text) text

-- A number is an optional sign, digits before and after an optional point, and an optional
-- exponent: a mark, an optional sign and digits.
pub record Number : Type 0 where
  pub negative : Bool
  pub whole : List ℕ
  pub fraction : List ℕ
  pub exponent_negative : Bool
  pub exponent : List ℕ

-- the sign and the digits of the exponent, of which there is at least one; with no mark it is 0
abbrev pub exponent_of : Option (List ℕ) → Option (Bool × List ℕ)
exponent_of None = Some (false, [])
exponent_of (Some text) =
    if nat_lt 0 (length (without_sign text)) && all_digits (without_sign text) then Some (is_negative text, without_sign text) else None

abbrev pub fraction_of : Option (List ℕ) → List ℕ
fraction_of None = []
fraction_of (Some text) = text

-- the digits before and after the point, of which there is at least one
abbrev pub mantissa_of : List ℕ × Option (List ℕ) → Option (List ℕ × List ℕ)
mantissa_of cut =
    if nat_lt 0 (length cut.0 + length (fraction_of cut.1)) && (all_digits cut.0 && all_digits (fraction_of cut.1))
    then Some (cut.0, fraction_of cut.1) else None

abbrev pub number_from : Bool → Option (List ℕ × List ℕ) → Option (Bool × List ℕ) → Option Number
number_from negative None exponent = None
number_from negative (Some mantissa) None = None
number_from negative (Some mantissa) (Some exponent) = Some (record {
  negative = negative;
  whole = mantissa.0;
  fraction = mantissa.1;
  exponent_negative = exponent.0;
  exponent = exponent.1;
})

-- the number that a text is, if it is one
abbrev pub number_of : List ℕ → Option Number
number_of text =
    let cut = cut_by is_mark (without_sign text) in
    number_from (is_negative text) (mantissa_of (cut_by is_point cut.0)) (exponent_of cut.1)

-- the number that digits spell, after a number that stands before them
abbrev pub spelled_from : ℕ → List ℕ → ℕ
spelled_from = fold (λ n b. 10 * n + (b - 48))

-- the whole number that the digits spell without the point
abbrev pub digits_value : Number → ℕ
digits_value n = spelled_from (spelled_from 0 n.whole) n.fraction

abbrev pub with_sign : Bool → ℕ → ℤ
with_sign true n = neg_ℤ (pos n)
with_sign false n = pos n

abbrev pub exponent_value : Number → ℤ
exponent_value n = with_sign n.exponent_negative (spelled_from 0 n.exponent)

-- the greater of z and 0
abbrev pub or_zero : ℤ → ℕ
or_zero (pos n) = n
or_zero (negsuc n) = 0

-- The number's value times k, rounded to the nearest whole number, halves away from zero. With m
-- its digits, f of them after the point, and x its exponent, the value is m * 10 ^ (x - f).
abbrev pub nearest_to : Number → ℕ → ℤ
nearest_to n k =
    let x = exponent_value n in
    let f = pos (length n.fraction) in
    round_div (with_sign n.negative (digits_value n * k * 10 ^ or_zero (x -ℤ f))) (pos (10 ^ or_zero (f -ℤ x)))

-- a result is at most 2147483647 either way
abbrev pub in_range : ℤ → Result ℤ NumFault
in_range z = if nat_le (unsigned_abs z) MAX_COORDINATE then Ok z else Err Range

-- a number has at most 30 digits, leading zeros counted, and at most three digits of exponent
abbrev pub has_few_digits : Number → Bool
has_few_digits n = nat_le (length n.whole + length n.fraction) 30 && nat_le (length n.exponent) 3

abbrev pub scaled_number : Option Number → ℕ → Result ℤ NumFault
scaled_number None k = Err Form
scaled_number (Some n) k = if has_few_digits n then in_range (nearest_to n k) else Err Digits

-- the whole number nearest to k times the number that the text is, or why there is none
abbrev pub scaled : List ℕ → ℕ → Result ℤ NumFault
scaled text k = scaled_number (number_of text) k
