use Rattle.std.proofs.Common.{◌*◌, ◌^◌, ◌-ℤ◌, ◌∙◌, pos, length}
use Rattle.abuf_num.proofs.Signs.{signed_in_range}
use Rattle.abuf_num.proofs.Powers.{pow_pos}
use Rattle.abuf_num.specs.DecimalParts.{number_view}
use Rattle.abuf_num.specs.Decimal.{exponent_value, or_zero, digits_value}
use Rattle.abuf_num.proofs.decimal.DecimalParts.result.Goals as goal

pub returns : goal.returns
returns c =
    let n = number_view c.args.self.now in
    let x = exponent_value n in
    let f = pos (length n.fraction) in
    let size = signed_in_range n.negative (digits_value n * c.args.k * 10 ^ or_zero (x -ℤ f)) (10 ^ or_zero (f -ℤ x)) (pow_pos (or_zero (f -ℤ x))) in
    c.with_sign.ensures ∙ rw (c.size.ensures, c.requires.value, c.from.ensures, c.moves-up.ensures.up, c.moves-up.ensures.down) size
