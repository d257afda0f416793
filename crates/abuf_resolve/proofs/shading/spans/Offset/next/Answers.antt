use Rattle.std.proofs.Common.{◌≡◌, ◌+◌, ◌*◌, ◌/◌, ◌%◌, arith}
use Rattle.std.proofs.lemmas.Nat.{div-add-mod'}
use Rattle.abuf_resolve.proofs.Places.{row_column}
use Rattle.abuf_resolve.proofs.shading.spans.Offset.next.Goals as goal

pub returns-then-self-width : goal.returns-then-self-width
returns-then-self-width c = λ p is.
    let w = c.args.width in
    let e : p + 1 ≡ p / w * w + (p % w + 1) = omega (arith, div-add-mod' p w) in
    let at = row_column (p / w) w (p % w + 1) (p + 1) e (omega (arith, is.column, c.if-self-width.true)) in
    record { column = omega (arith, at.1, is.column); row = omega (arith, at.0, is.row); inside = c.if-self-width.true; few = omega (arith, is.few) }

pub returns-else-self-width : goal.returns-else-self-width
returns-else-self-width c = λ p is.
    let w = c.args.width in
    let last : p % w + 1 ≡ w = omega (arith, is.column, is.inside, c.if-self-width.false) in
    let e : p + 1 ≡ (p / w + 1) * w + 0 = omega (arith, div-add-mod' p w, last) in
    let at = row_column (p / w + 1) w 0 (p + 1) e (omega (arith, is.inside)) in
    record { column = omega (arith, at.1); row = omega (arith, at.0, is.row); inside = omega (arith, is.inside); few = omega (arith, is.few) }
