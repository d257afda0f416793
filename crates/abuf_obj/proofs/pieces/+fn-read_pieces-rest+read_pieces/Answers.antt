use Rattle.std.proofs.Common.{◌≡◌, ◌+◌, ◌++◌, length, length-append, arith}
use Rattle.std.proofs.lemmas.Result.{IfOk-at_ok}
use Rattle.abuf_text.specs.Lines.{lines}
use Rattle.abuf_obj.specs.Pieces.{BeginsBehind, HasPiece, HavePieces}
use Rattle.abuf_obj.proofs.pieces.+fn-read_pieces-rest+read_pieces.Goals as goal

pub returns-clause-pieces : goal.returns-clause-pieces
returns-clause-pieces g t c = λ before count begin.
    let front = lines c.split_lines.result.0.now in
    let back = lines c.split_lines.result.1.now in
    let tally = c.in_ok-tally.ensures.tally in
    let next : BeginsBehind (before ++ front) c.in_ok-next.next = c.in_ok-next.ensures before front begin tally in
    let above : c.args.lines_above + c.in_ok-tally.tally.lines ≡ length (before ++ front) = omega (arith, count, length-append before front, tally.lines) in
    let first : HasPiece before front c.in_ok-first.first = IfOk-at_ok (HasPiece before front) c.in_ok-first.was (c.join-first.ensures.first before count begin) in
    let others : HavePieces c.in_ok-rest.rest.items (before ++ front) back =
    IfOk-at_ok (λ readers. HavePieces readers.items (before ++ front) back) c.in_ok-rest.was (c.join-first.ensures.second.1 (before ++ front) above next) in
    rw (c.in_ok-readers.ensures.items) (record { front = front; back = back; all = c.split_lines.ensures.lines; has = first; others = others })
