use Rattle.std.proofs.Common.{◌≤◌, rules}
use Rattle.abuf_share.proofs.DeskSteps.{takes}
use Rattle.abuf_share.proofs.desk.Desk.take.Goals as goal

pub fetch_add-number-requires : goal.fetch_add-number-requires
fetch_add-number-requires c = let enough : 1 ≤ c.turn.inside.seat.me.0.credit = search rules in (search rules, search rules, takes _ _ c.turn.inside.seat.me c.turn.invariant enough)
