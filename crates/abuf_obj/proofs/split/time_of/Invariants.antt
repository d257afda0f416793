use Rattle.std.proofs.Common.{◌≤◌, ◌*◌}
use Rattle.abuf_obj.proofs.split.time_of.Given as goal

abbrev pub invariant-loop-sample : goal.invariant-loop-sample
invariant-loop-sample l = l.time ≤ 8 * l.sample
