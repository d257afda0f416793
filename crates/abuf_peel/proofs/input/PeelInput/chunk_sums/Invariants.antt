use Rattle.std.proofs.Common.{◌*◌}
use Rattle.abuf_peel.specs.Rows.{AreSums}
use Rattle.abuf_peel.proofs.input.PeelInput.chunk_sums.Given as goal

abbrev pub invariant-loop-i : goal.invariant-loop-i
invariant-loop-i l = AreSums l.self (4 * l.n) l.i l.sums.items
