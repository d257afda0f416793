use Rattle.std.proofs.Common.{◌≡◌, ◌+◌, ◌++◌, List, ℕ}
use Rattle.std.specs.List.{range_with_len}
use Rattle.abuf_resolve.specs.Spans.{IsOffset, AreSpanSums}
use Rattle.abuf_resolve.proofs.shading.Shading.add_places.Given as goal

abbrev pub invariant-loop-i : goal.invariant-loop-i
invariant-loop-i l = record {
  sums : (places : List ℕ) → AreSpanSums l.self l.region l.fn.reading.reader.frame.lists places l.fn.to
      → AreSpanSums l.self l.region l.fn.reading.reader.frame.lists (places ++ range_with_len l.span.from l.i) l.to;
  reads : l.reading.reader.frame ≡ l.fn.reading.reader.frame;
  offset : IsOffset l.region.w (l.span.from + l.i) l.offset;
}
