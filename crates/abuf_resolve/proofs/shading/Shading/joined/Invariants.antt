use Rattle.std.proofs.Common.{◌*◌, min}
use Rattle.std.specs.List.{range_with_len}
use Rattle.abuf_resolve.specs.Spans.{AreSpanSums}
use Rattle.abuf_resolve.proofs.shading.Shading.joined.Given as goal

abbrev pub invariant-loop-span : goal.invariant-loop-span
invariant-loop-span l =
    AreSpanSums l.fn.self l.fn.region l.fn.closed.lists (range_with_len 0 (min (l.fn.size * l.span-index) (l.fn.region.w * l.fn.region.h))) (record { sums = l.sums.items; longest = l.longest })
