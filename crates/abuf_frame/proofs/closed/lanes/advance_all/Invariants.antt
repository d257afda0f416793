use Rattle.std.proofs.Common.{vec_items}
use Rattle.abuf_frame.specs.Lanes.{Advances}
use Rattle.abuf_frame.proofs.Eight.{AdvancedTo}
use Rattle.abuf_frame.proofs.closed.lanes.advance_all.Given as goal

abbrev pub invariant-loop-k : goal.invariant-loop-k
invariant-loop-k l = AdvancedTo vec_items (Advances l.words l.fn.pixels) l.fn.at l.fn.lists l.at l.lists l.k
