-- Numbers at the start of a text.
use Rattle.std.specs.Prelude.{◌==◌, ◌||◌, ◌≡◌, ◌+◌, ◌<◌, ◌≤◌, ◌^◌, ℕ, Bool, true, List, [], ◌∷◌, length, Option, Some, None, ⊤}
use Rattle.std.specs.List.{list_all}
use Rattle.abuf_num.specs.Decimal.{is_digit, all_digits, is_mark, is_point, mantissa_of, exponent_of, cut_by, spelled_from}
use Rattle.abuf_num.specs.declared.leading.Mantissa.{Mantissa}
use Rattle.abuf_num.specs.declared.leading.Exponent.{Exponent}

-- a digit or a point
abbrev pub is_mantissa_byte : ℕ → Bool
is_mantissa_byte b = is_digit b || is_point b

-- a byte of which numbers are written: a digit, a point, `e`, `E`, `-` or `+`
abbrev pub is_number_byte : ℕ → Bool
is_number_byte b = is_mantissa_byte b || (is_mark b || (b == 45 || b == 43))

-- the text is a mantissa of at most 18 digits, and these are its parts
pub record IsMantissa (m : Mantissa) (text : List ℕ) : Type 0 where
  pub some : 0 < length text
  pub bytes : list_all is_mantissa_byte text ≡ true
  pub parts : mantissa_of (cut_by is_point text) ≡ Some (m.whole.now, m.fraction.now)
  pub whole : all_digits m.whole.now ≡ true
  pub fraction : all_digits m.fraction.now ≡ true
  pub few : length m.whole.now + length m.fraction.now ≤ 18
  pub value : m.digits ≡ spelled_from (spelled_from 0 m.whole.now) m.fraction.now
  pub small : m.digits < 10 ^ 18

-- what stands behind a mark
abbrev pub behind_mark : List ℕ → Option (List ℕ)
behind_mark [] = None
behind_mark (b ∷ text) = Some text

-- the text begins with a mark, if it has a byte
abbrev pub BeginsMarked : List ℕ → Type 0
BeginsMarked [] = ⊤
BeginsMarked (b ∷ text) = is_mark b ≡ true

-- the text is an exponent of at most three digits with its mark, or nothing, and these are its parts
pub record IsExponent (e : Exponent) (text : List ℕ) : Type 0 where
  pub mark : BeginsMarked text
  pub bytes : list_all is_number_byte text ≡ true
  pub parts : exponent_of (behind_mark text) ≡ Some (e.negative, e.digits.now)
  pub digits : all_digits e.digits.now ≡ true
  pub few : length e.digits.now ≤ 3
