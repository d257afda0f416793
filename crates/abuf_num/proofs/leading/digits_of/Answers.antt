use Rattle.std.proofs.Common.{◌+◌, add_assoc, arith, ℕ, ap}
use Rattle.std.proofs.lemmas.List.Folds.{list_all_more}
use Rattle.std.proofs.lemmas.Bool.Decides.{nat_tests}
use Rattle.abuf_num.specs.Decimal.{is_digit}
use Rattle.std.proofs.lemmas.Grind.{common_steps}
use Rattle.abuf_num.proofs.Powers.{pow_le, digit_fits}
use Rattle.abuf_num.proofs.leading.digits_of.Goals as goal

pub overflow_mul-value : goal.overflow_mul-value
overflow_mul-value c = omega (arith, pow_le (c.args.places + c.loop-b.b-index) 18 (omega arith))

pub overflow_add-value : goal.overflow_add-value
overflow_add-value c = omega (arith, pow_le (c.args.places + c.loop-b.b-index) 18 (omega arith))

pub loop-b-preserved : goal.loop-b-preserved
loop-b-preserved c = record {
  count = ap (λ (n : ℕ). n + 1) c.loop-b.invariant.count;
  digits = rw (list_all_more is_digit c.args.text.now c.loop-b.b-index 0 (omega arith), c.loop-b.invariant.digits) (grind (arith, nat_tests));
  value = rw c.from.ensures (grind (arith, common_steps));
  small = rw (← add_assoc c.args.places c.loop-b.b-index 1) (digit_fits c.loop-b.value _ (c.args.places + c.loop-b.b-index) c.loop-b.invariant.small (omega arith));
}
