use Rattle.std.proofs.Common.{◌≡◌}
use Rattle.abuf_resolve.specs.Shading.{colour_at}
use Rattle.abuf_resolve.specs.Sums.{summed, IsSmall}
use Rattle.abuf_resolve.proofs.shading.Shading.sums_by_sample.Given as goal

abbrev pub invariant-loop-k : goal.invariant-loop-k
invariant-loop-k l = (l.sum ≡ summed (colour_at l.self l.at l.list) l.k) × IsSmall l.k l.sum
