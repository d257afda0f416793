use Rattle.std.proofs.Common.{take, All}
use Rattle.abuf_raster.specs.Samples.{offsets_of}
use Rattle.abuf_resolve.specs.Words.{IsFragmentAt}
use Rattle.abuf_drawing_rows.proofs.resolving.are_fragments.Given as goal

abbrev pub invariant-loop-word : goal.invariant-loop-word
invariant-loop-word l = All (IsFragmentAt (offsets_of l.pattern) l.tris l.x l.y) (take l.word-index l.words)
