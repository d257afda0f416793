use Rattle.std.proofs.Common.{◌∙◌, arith}
use Rattle.abuf_obj.proofs.Leading.{indexed}
use Rattle.abuf_obj.proofs.element.leading_index.Goals as goal

pub returns-clause-index : goal.returns-clause-index
returns-clause-index c =
    let digits = c.leading_digits-digits in
    let i = indexed c.args.text.now c.without_minus-unsigned.result.now digits.result.count digits.result.value c.without_minus-unsigned.ensures (omega arith) digits.ensures.few digits.ensures.count
    digits.ensures.digits digits.ensures.value in
    record { some = i.some; bytes = i.bytes; negative = c.begins_negative.ensures ∙ i.sign; value = i.spells }
