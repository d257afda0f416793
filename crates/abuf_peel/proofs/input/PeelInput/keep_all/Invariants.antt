use Rattle.std.specs.List.{range_with_len}
use Rattle.abuf_raster.specs.Samples.{offsets_of}
use Rattle.abuf_peel.specs.Members.{Keep}
use Rattle.abuf_peel.proofs.input.PeelInput.keep_all.Given as goal

abbrev pub invariant-loop-n : goal.invariant-loop-n
invariant-loop-n l = Keep (offsets_of l.self.pattern) l.self.tris.now l.region (range_with_len 0 l.n) l.members.items
