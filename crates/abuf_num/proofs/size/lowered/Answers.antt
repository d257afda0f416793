use Rattle.std.proofs.Common.{arith}
use Rattle.abuf_num.proofs.Powers.{pow_le, pow_pos, rounds_to_zero}
use Rattle.abuf_num.proofs.size.lowered.Goals as goal

pub returns-then-down-gt35 : goal.returns-then-down-gt35
returns-then-down-gt35 c = rounds_to_zero c.args.n c.args.down c.requires (omega arith)

pub pow-unit-requires : goal.pow-unit-requires
pow-unit-requires c = omega (arith, pow_le c.args.down 35 (omega arith))

pub overflow_add-value : goal.overflow_add-value
overflow_add-value c = omega (arith, c.requires, pow_le c.args.down 35 (omega arith))

pub overflow_mul-value-2 : goal.overflow_mul-value-2
overflow_mul-value-2 c = omega (arith, pow_le c.args.down 35 (omega arith))

pub nonzero_div-value : goal.nonzero_div-value
nonzero_div-value c = omega (arith, pow_pos c.args.down)
