use Rattle.std.proofs.Common.{◌≡◌}
use Rattle.abuf_raster.specs.Samples.{offsets_of}
use Rattle.abuf_raster.specs.Coverage.{mask_below}
use Rattle.abuf_raster.proofs.for_users.mask_by.Given as goal

abbrev pub invariant-loop-k : goal.invariant-loop-k
invariant-loop-k g l = l.mask ≡ mask_below l.t (offsets_of l.pattern) l.x l.y l.k
