use Rattle.std.proofs.Common.{◌≡◌, take, length, All}
use Rattle.abuf_raster.specs.Samples.{offsets_of}
use Rattle.abuf_resolve.specs.Words.{sample_words, IsDepthWord}
use Rattle.abuf_resolve.proofs.planes.Planes.sample_words.Given as goal

abbrev pub invariant-loop-word : goal.invariant-loop-word
invariant-loop-word l = record {
  words : l.keys.items ≡ sample_words (offsets_of l.pattern) l.self l.at.x l.at.y l.k (take l.word-index l.list);
  fit : All (IsDepthWord (length l.self)) l.keys.items;
}
