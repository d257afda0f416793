use Rattle.std.proofs.Common.{◌≡◌, ◌≤◌, ◌<◌, ℕ, length}
use Rattle.std.specs.List.{All}
use Rattle.abuf_raster.specs.Region.{whole_image}
use Rattle.abuf_raster.specs.Samples.{offsets_of}
use Rattle.abuf_resolve.specs.Sums.{IsSmall, region_sums}
use Rattle.abuf_band.proofs.Above.{above}
use Rattle.abuf_band.specs.Bands.{band_total}
use Rattle.abuf_band.proofs.rendering.render_bands.Given as goal

abbrev pub invariant-loop-band : goal.invariant-loop-band
invariant-loop-band g l = record {
  sums : l.sums.items ≡ region_sums (offsets_of l.pattern) l.background l.projected.tris l.projected.paints (above (whole_image l.width l.height) l.bands l.band);
  small : All (IsSmall (length (offsets_of l.pattern))) l.sums.items;
  fit : (k : ℕ) → k < l.band → band_total l.projected.tris l.pattern l.width l.height l.bands k ≤ l.nodes;
}
