use Rattle.std.proofs.Common.{◌≡◌, ◌+◌, ◌*◌, [], slice_index_or}
use Rattle.abuf_resolve.specs.Sums.{summed, IsSmall}
use Rattle.abuf_peel.proofs.sums.sum_of_place.Given as goal

abbrev pub invariant-loop-k : goal.invariant-loop-k
invariant-loop-k l = record {
  value : l.sum ≡ summed (λ k. slice_index_or l.colours (l.place * l.size + k) []) l.k;
  small : IsSmall l.k l.sum;
}
