use Rattle.std.proofs.Common.{◌≡◌, ◌+◌, List, ℕ, length}
use Rattle.abuf_text.specs.Lines.{lines}
use Rattle.abuf_obj.specs.Pieces.{texts, BeginsBehind}
use Rattle.abuf_obj.proofs.PieceReading.{IsReading}
use Rattle.abuf_obj.proofs.pieces.read_piece.Given as goal

abbrev pub invariant-loop-line : goal.invariant-loop-line
invariant-loop-line l = record {
  count : l.number + length l.line-iterator ≡ l.fn.lines_above + length (lines l.fn.bytes);
  reading : (before : List (List ℕ)) → l.fn.lines_above ≡ length before → BeginsBehind before l.fn.start → IsReading before (texts l.yielded) l.line-iterator (lines l.fn.bytes) l.number l.reader;
}
