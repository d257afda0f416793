use Rattle.std.proofs.Common.{◌≡◌, length}
use Rattle.abuf_raster.specs.Samples.{offsets_of}
use Rattle.abuf_resolve.specs.Shading.{composite_at}
use Rattle.abuf_resolve.specs.ColourSum.{Holds, IsFair}
use Rattle.abuf_resolve.proofs.shading.Shading.sums_in_order.Given as goal

abbrev pub invariant-loop-colour_sum : goal.invariant-loop-colour_sum
invariant-loop-colour_sum l = record {
  fair : IsFair l.colour_sum;
  samples : l.colour_sum.samples ≡ length (offsets_of l.self.pattern);
  holds : Holds (composite_at l.self l.words) l.colour_sum;
}

abbrev pub decreases-loop-colour_sum : goal.decreases-loop-colour_sum
decreases-loop-colour_sum l = l.colour_sum.rest
