use Rattle.std.proofs.Common.{arith, ◌∙◌}
use Rattle.abuf_obj.proofs.Digits.{digit_fits, spelled_from-at, short_fits}
use Rattle.abuf_obj.proofs.element.spelled_out.Goals as goal

pub overflow_mul-n : goal.overflow_mul-n
overflow_mul-n c = omega (arith, short_fits c.loop-b.b-index (omega arith))

pub overflow_add-n : goal.overflow_add-n
overflow_add-n c = omega (arith, short_fits c.loop-b.b-index (omega arith))

pub loop-b-preserved : goal.loop-b-preserved
loop-b-preserved c = record {
  same = rw c.from.ensures (spelled_from-at c.loop-b.n c.args.text.now c.loop-b.b-index (omega arith) (omega arith) (omega arith) ∙ c.loop-b.invariant.same);
  small = digit_fits c.loop-b.n _ c.loop-b.b-index c.loop-b.invariant.small (omega arith);
}
