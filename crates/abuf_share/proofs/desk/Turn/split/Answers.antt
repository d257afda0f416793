use Rattle.std.proofs.Common.{◌≤◌, rules}
use Rattle.abuf_share.proofs.DeskSteps.{splits}
use Rattle.abuf_share.proofs.desk.Turn.split.Goals as goal

pub split_at-seat-requires : goal.split_at-seat-requires
split_at-seat-requires c = let enough : c.args.credit ≤ c.self.inside.seat.me.0.credit = search rules in (search rules, search rules, splits _ c.args.credit c.self.inside.seat.me.0 enough)
