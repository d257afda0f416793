use Rattle.std.proofs.Common.{◌≡◌, ◌*◌, ◌≤◌, take, sum_by}
use Rattle.abuf_watching.specs.Report.{channel_sum}
use Rattle.abuf_watching.proofs.report.sum_of.Given as goal

abbrev pub invariant-loop-sum : goal.invariant-loop-sum
invariant-loop-sum l = record {
  value : l.all ≡ sum_by channel_sum (take l.sum-index l.sums);
  small : l.all ≤ l.sum-index * 12884901885;
}
