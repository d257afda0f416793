use Rattle.std.proofs.Common.{◌≡◌, ◌*◌, ◌<◌, All, length, map}
use Rattle.std.specs.List.{range_with_len}
use Rattle.abuf_watching.specs.Grid.{grid_place}
use Rattle.abuf_watching.proofs.grid.grid.Given as goal

abbrev pub invariant-loop-n : goal.invariant-loop-n
invariant-loop-n l = record {
  value : l.places.items ≡ map (grid_place l.region) (range_with_len 0 l.n);
  within : All (λ p. p < l.region.w * l.region.h) l.places.items;
  count : length l.places.items ≡ l.n;
}
