use Rattle.std.proofs.Common.{◌+◌, length, arith}
use Rattle.abuf_num.proofs.Powers.{pow_le}
use Rattle.abuf_num.proofs.texts.whole_number.Goals as goal

pub returns-else-not-has_digits_only-clause-below : goal.returns-else-not-has_digits_only-clause-below
returns-else-not-has_digits_only-clause-below c =
    omega (arith, c.spelled.ensures.small, pow_le (0 + length c.args.text.now) c.args.most (omega arith))
