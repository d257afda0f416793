use Rattle.std.proofs.Common.{arith}
use Rattle.abuf_num.proofs.Powers.{pow_le, pow_pos}
use Rattle.abuf_num.proofs.size.short_nearest.Goals as goal

pub overflow_add-result-in_default : goal.overflow_add-result-in_default
overflow_add-result-in_default c = omega (arith, pow_le c.args.down 18 (omega arith))

pub overflow_mul-result-in_default-2 : goal.overflow_mul-result-in_default-2
overflow_mul-result-in_default-2 c = omega (arith, pow_le c.args.down 18 (omega arith))

pub nonzero_div-result-in_default : goal.nonzero_div-result-in_default
nonzero_div-result-in_default c = omega (arith, pow_pos c.args.down)
