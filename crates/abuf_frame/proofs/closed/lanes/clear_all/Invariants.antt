use Rattle.std.proofs.Common.{vec_items}
use Rattle.abuf_frame.proofs.Eight.{Emptied}
use Rattle.abuf_frame.proofs.closed.lanes.clear_all.Given as goal

abbrev pub invariant-loop-k : goal.invariant-loop-k
invariant-loop-k l = Emptied vec_items l.lists l.k
