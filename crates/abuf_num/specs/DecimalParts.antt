-- What the parts of a text that the code finds stand for.
use Rattle.std.specs.Prelude.{◌≡◌, true}
use Rattle.abuf_num.specs.Decimal.{Number, all_digits}
use Rattle.abuf_num.specs.declared.decimal.DecimalParts.{DecimalParts}

abbrev pub number_view : DecimalParts → Number
number_view p = record {
  negative = p.negative;
  whole = p.whole.now;
  fraction = p.fraction.now;
  exponent_negative = p.exponent_negative;
  exponent = p.exponent.now;
}

-- the parts are digits
pub record HasDigits (p : DecimalParts) : Type 0 where
  pub whole : all_digits p.whole.now ≡ true
  pub fraction : all_digits p.fraction.now ≡ true
  pub exponent : all_digits p.exponent.now ≡ true
