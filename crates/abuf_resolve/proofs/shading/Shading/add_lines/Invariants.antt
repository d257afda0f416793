use Rattle.std.proofs.Common.{◌≡◌, ◌+◌, ◌-◌, ◌≤◌, ◌++◌, List, ℕ, min}
use Rattle.std.specs.List.{range_with_len}
use Rattle.abuf_resolve.specs.Spans.{AreSpanSums}
use Rattle.abuf_resolve.proofs.shading.Shading.add_lines.Given as goal

abbrev pub invariant-loop-done : goal.invariant-loop-done
invariant-loop-done l = record {
  within : l.done ≤ l.upper;
  all : (places : List ℕ) → AreSpanSums l.self l.region l.fn.reading.reader.frame.lists places l.fn.lines.all
      → AreSpanSums l.self l.region l.fn.reading.reader.frame.lists (places ++ range_with_len l.span.from l.done) l.lines.all;
  lower : AreSpanSums l.self l.region l.fn.reading.reader.frame.lists (range_with_len (l.span.from + l.upper) (min l.done l.lower)) l.lines.lower;
  reads : l.reading.reader.frame ≡ l.fn.reading.reader.frame;
}

abbrev pub decreases-loop-done : goal.decreases-loop-done
decreases-loop-done l = l.upper - l.done
