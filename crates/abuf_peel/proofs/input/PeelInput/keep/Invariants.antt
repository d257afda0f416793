use Rattle.std.proofs.Common.{take}
use Rattle.abuf_raster.specs.Samples.{offsets_of}
use Rattle.abuf_peel.specs.Members.{Keep}
use Rattle.abuf_peel.proofs.input.PeelInput.keep.Given as goal

abbrev pub invariant-loop-n : goal.invariant-loop-n
invariant-loop-n l = Keep (offsets_of l.self.pattern) l.self.tris.now l.region (take l.n-index l.among) l.members.items
