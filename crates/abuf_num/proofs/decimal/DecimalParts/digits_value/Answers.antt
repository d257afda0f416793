use Rattle.std.proofs.Common.{◌+◌, length, arith}
use Rattle.abuf_num.proofs.Powers.{pow_le}
use Rattle.abuf_num.proofs.decimal.DecimalParts.digits_value.Goals as goal

pub returns-clause-small : goal.returns-clause-small
returns-clause-small c =
    omega (arith, c.spelled.ensures.small, pow_le (length c.args.self.now.whole.now + length c.args.self.now.fraction.now) 30 c.requires.short)
