use Rattle.std.proofs.Common.{◌*◌, min}
use Rattle.abuf_peel.specs.Rows.{AreSums}
use Rattle.abuf_peel.proofs.input.PeelInput.put_together.Given as goal

abbrev pub invariant-loop-chunk : goal.invariant-loop-chunk
invariant-loop-chunk l = AreSums l.self 0 (min (4 * l.chunk-index) l.self.height) l.sums.items
