use Rattle.std.proofs.Common.{◌≡◌, map}
use Rattle.std.specs.List.{range_with_len}
use Rattle.abuf_raster.specs.Samples.{offsets_of}
use Rattle.abuf_uses.specs.Masks.{mask_of_place}
use Rattle.abuf_uses.proofs.coverage.masks_of.Given as goal

abbrev pub invariant-loop-place : goal.invariant-loop-place
invariant-loop-place l = record {
  masks : l.table.items ≡ map (mask_of_place l.t (offsets_of l.pattern) l.region) (range_with_len 0 l.place);
}
