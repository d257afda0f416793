-- The size of a result, apart from its sign.
use Rattle.std.specs.Prelude.{ℕ, ℤ, Bool, nat_le, Option, Some, None, Result, Ok, Err, if◌then◌else◌}
use Rattle.abuf_num.specs.Decimal.{with_sign}
use Rattle.abuf_num.specs.declared.limits.TheConstants.{MAX_COORDINATE}
use Rattle.abuf_num.specs.declared.decimal.NumFault.{NumFault}
use Rattle.abuf_num.specs.declared.decimal.NumFault.TheVariants.{Range}

-- the size, where it is at most 2147483647
abbrev pub limited : ℕ → Option ℕ
limited n = if nat_le n MAX_COORDINATE then Some n else None

abbrev pub result_of : Bool → Option ℕ → Result ℤ NumFault
result_of negative None = Err Range
result_of negative (Some n) = Ok (with_sign negative n)
