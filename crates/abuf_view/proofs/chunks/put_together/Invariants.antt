use Rattle.std.proofs.Common.{◌≡◌}
use Rattle.abuf_view.specs.Chunks.{before, together}
use Rattle.abuf_view.proofs.chunks.put_together.Given as goal

abbrev pub invariant-loop-chunk : goal.invariant-loop-chunk
invariant-loop-chunk l = before (record { tris = l.tris.items; paints = l.paints.items }) (together l.chunk-iterator.rest.items) ≡ together l.fn.chunks.items
