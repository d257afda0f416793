use Rattle.std.proofs.Common.{rules, vec_items}
use Rattle.abuf_frame.specs.Lanes.{Advances}
use Rattle.abuf_frame.proofs.Eight.{advances_lane}
use Rattle.abuf_frame.proofs.closed.lanes.advance_all.Goals as goal

pub loop-k-preserved : goal.loop-k-preserved
loop-k-preserved c = advances_lane vec_items (Advances c.args.words.now c.args.pixels) c.args.at.now c.args.lists.now c.loop-k.at c.loop-k.lists c.loop-k.k c.in_ok-at.field-0 _ c.index-lists-k.result (search rules) c.in_ok-at.ensures c.loop-k.invariant
