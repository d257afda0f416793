use Rattle.std.proofs.Common.{◌≡◌, ◌∙◌, ◌<◌, ◌-◌, Bool, true, Some, sym, ap, take, drop, get_or, length, arith}
use Rattle.std.proofs.lemmas.List.{length-take-le}
use Rattle.std.proofs.lemmas.Bool.Decides.{nat_tests}
use Rattle.abuf_num.specs.Decimal.{is_mark}
use Rattle.abuf_num.proofs.Notation.{marked, to_end}
use Rattle.abuf_num.proofs.leading.leading_exponent.Goals as goal

pub returns-clause-exponent : goal.returns-clause-exponent
returns-clause-exponent c =
    let text = c.args.text.now in
    let unsigned = c.strip_sign-unsigned.result.now in
    let digits = c.leading_digits-digits in
    let b = digits.result.count in
    let some : 0 < length text = grind (arith, nat_tests) in
    let mark : is_mark (get_or text 0 0) ≡ true = sym c.is_mark.ensures ∙ c.if-not-is_mark.false in
    let size = length-take-le b unsigned digits.ensures.count in
    let m = marked text (take (length text - 1) (drop 1 text)) unsigned b some mark (to_end 1 text) c.strip_sign-unsigned.ensures (omega arith) digits.ensures.count digits.ensures.digits in
    record {
      mark = m.mark;
      bytes = m.bytes;
      parts = m.parts ∙ ap (λ (n : Bool). Some (n, take b unsigned)) (sym c.begins_negative.ensures);
      digits = digits.ensures.digits;
      few = omega (arith, size, digits.ensures.few);
    }
