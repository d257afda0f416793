use Rattle.std.proofs.Common.{◌≤◌, ◌*◌}
use Rattle.abuf_obj.proofs.split.offset_by_time.Given as goal

abbrev pub invariant-loop-sample : goal.invariant-loop-sample
invariant-loop-sample l = l.before ≤ 8 * l.sample
