use Rattle.std.proofs.Common.{◌≡◌, ◌<◌, ℕ, take, length}
use Rattle.std.specs.Int.{bit_at}
use Rattle.std.specs.List.{filter}
use Rattle.abuf_resolve.specs.Words.{has_sample}
use Rattle.abuf_resolve.proofs.sample_hits.are_apart.Given as goal

abbrev pub invariant-loop-word : goal.invariant-loop-word
invariant-loop-word l = (k : ℕ) → k < 16 → length (filter (has_sample k) (take l.word-index l.words)) ≡ bit_at l.seen k
