use Rattle.std.proofs.Common.{take}
use Rattle.std.specs.List.{filter}
use Rattle.abuf_resolve.specs.SampleHits.{Has}
use Rattle.abuf_resolve.specs.Words.{has_sample}
use Rattle.abuf_resolve.proofs.sample_hits.SampleHits.of.Given as goal

abbrev pub invariant-loop-word : goal.invariant-loop-word
invariant-loop-word l = Has l.sample_hits (filter (has_sample l.k) (take l.word-index l.words))
