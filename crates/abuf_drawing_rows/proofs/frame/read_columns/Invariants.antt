use Rattle.std.proofs.Common.{◌≡◌}
use Rattle.abuf_drawing_rows.proofs.frame.read_columns.Given as goal

abbrev pub invariant-loop-column : goal.invariant-loop-column
invariant-loop-column l = l.reader.frame ≡ l.closed
