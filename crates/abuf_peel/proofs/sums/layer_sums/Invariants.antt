use Rattle.std.proofs.Common.{◌≡◌, All, map}
use Rattle.std.specs.List.{range_with_len}
use Rattle.abuf_resolve.specs.Sums.{IsSmall}
use Rattle.abuf_peel.specs.Layers.{sum_of_place}
use Rattle.abuf_peel.proofs.sums.layer_sums.Given as goal

abbrev pub invariant-loop-place : goal.invariant-loop-place
invariant-loop-place l = record {
  value : l.sums.items ≡ map (sum_of_place l.colours l.size) (range_with_len 0 l.place);
  small : All (IsSmall l.size) l.sums.items;
}
