use Rattle.abuf_num.proofs.Notation.{numbered, to_end}
use Rattle.abuf_num.proofs.leading.leading_parts.Goals as goal

pub returns-clause-bytes : goal.returns-clause-bytes
returns-clause-bytes c =
    let m = c.in-Some.ensures.mantissa in
    let e = c.in-Some-leading_exponent.ensures.exponent in
    (numbered c.args.text.now c.strip_sign-unsigned.result.now _ c.in-Some.mantissa.length c.in-Some-leading_exponent.exponent.length _ _ _ _ c.strip_sign-unsigned.ensures
    (to_end c.in-Some.mantissa.length c.strip_sign-unsigned.result.now) c.in-Some.ensures.within c.in-Some-leading_exponent.ensures.within m.some m.bytes m.parts e.mark e.bytes e.parts).bytes

pub returns-clause-number : goal.returns-clause-number
returns-clause-number c =
    let m = c.in-Some.ensures.mantissa in
    let e = c.in-Some-leading_exponent.ensures.exponent in
    rw c.begins_negative.ensures (numbered c.args.text.now c.strip_sign-unsigned.result.now _ c.in-Some.mantissa.length c.in-Some-leading_exponent.exponent.length _ _ _ _ c.strip_sign-unsigned.ensures
    (to_end c.in-Some.mantissa.length c.strip_sign-unsigned.result.now) c.in-Some.ensures.within c.in-Some-leading_exponent.ensures.within m.some m.bytes m.parts e.mark e.bytes e.parts).number
