use Rattle.std.proofs.Common.{◌≡◌, ◌-◌, ◌≤◌, []}
use Rattle.std.specs.List.{range_with_len}
use Rattle.abuf_resolve.specs.Spans.{AreSpanSums}
use Rattle.abuf_resolve.proofs.shading.Shading.span_sums.Given as goal

abbrev pub invariant-loop-done : goal.invariant-loop-done
invariant-loop-done l = record {
  within : l.done ≤ l.span.count;
  sums : AreSpanSums l.self l.region l.closed.lists (range_with_len l.span.from l.done) l.lines.all;
  none : (l.lines.lower.sums ≡ []) × (l.lines.lower.longest ≡ 0);
  reads : l.reading.reader.frame ≡ l.closed;
}

abbrev pub decreases-loop-done : goal.decreases-loop-done
decreases-loop-done l = l.span.count - l.done
