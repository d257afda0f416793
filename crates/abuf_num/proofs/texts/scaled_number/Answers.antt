use Rattle.std.proofs.Common.{◌≤◌, ℤ, unsigned_abs, IfOk, Result, rules, sym, subst}
use Rattle.abuf_num.specs.Decimal.{number_of}
use Rattle.abuf_num.specs.declared.decimal.NumFault.{NumFault}
use Rattle.abuf_num.proofs.Ranges.{scaled_number-bound}
use Rattle.abuf_num.proofs.texts.scaled_number.Goals as goal

pub returns-in-Ok-clause-range : goal.returns-in-Ok-clause-range
returns-in-Ok-clause-range c =
    let bound = scaled_number-bound (number_of c.args.text.now) c.args.k in
    let here : unsigned_abs c.in-Ok.value ≤ 2147483647 = subst (λ (r : Result ℤ NumFault). IfOk r (λ (y : ℤ). unsigned_abs y ≤ 2147483647)) (sym c.in-Ok.ensures) bound in
    search (rules, here)
