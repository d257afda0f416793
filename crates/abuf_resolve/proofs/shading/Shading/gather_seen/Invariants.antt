use Rattle.std.proofs.Common.{take, length, All}
use Rattle.abuf_raster.specs.Samples.{offsets_of}
use Rattle.abuf_resolve.specs.Words.{sample_words, AreSeen, IsDepthWord}
use Rattle.abuf_resolve.proofs.shading.Shading.gather_seen.Given as goal

abbrev pub invariant-loop-word : goal.invariant-loop-word
invariant-loop-word l = record {
  seen : AreSeen l.self.paints.now (sample_words (offsets_of l.self.pattern) l.self.planes l.at.x l.at.y l.k (take l.word-index l.list)) l.keys.items l.least;
  fit : All (IsDepthWord (length l.self.paints.now)) l.keys.items;
}
