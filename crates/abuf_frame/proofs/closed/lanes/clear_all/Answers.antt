use Rattle.std.proofs.Common.{rules, vec_items}
use Rattle.abuf_frame.proofs.Eight.{empties}
use Rattle.abuf_frame.proofs.closed.lanes.clear_all.Goals as goal

pub loop-k-preserved : goal.loop-k-preserved
loop-k-preserved c = empties vec_items c.loop-k.lists c.loop-k.k _ (search rules) c.clear.ensures.items c.loop-k.invariant
