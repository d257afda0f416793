use Rattle.std.proofs.Common.{rules}
use Rattle.abuf_share.proofs.DeskSteps.{joins, tells}
use Rattle.abuf_share.proofs.desk.Turn.join.Goals as goal

pub join_seat-requires : goal.join_seat-requires
join_seat-requires c = (search rules, search rules, c.other.invariant, search rules, joins _ _ c.self.inside.seat.me.0 c.other.inside.seat.me.0)

pub load-requires : goal.load-requires
load-requires c = (search rules, search rules, tells _ _ c.join_seat.new.seat.me)
