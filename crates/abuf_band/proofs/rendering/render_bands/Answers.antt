use Rattle.std.proofs.Common.{rules, ◌≡◌, ◌≤◌, length, ℕ, ◌+◌, ℤ, List, ◌++◌, Err, refl, ap, ap₂, ◌∙◌, sym, subst, arith}
use Rattle.std.specs.List.{All}
use Rattle.std.proofs.lemmas.List.Elements.{All-append}
use borrow.Author.Count.{below_more}
use Rattle.abuf_num.specs.declared.plain.PixelSum.{PixelSum}
use Rattle.abuf_raster.specs.Region.{Region, whole_image}
use Rattle.abuf_raster.specs.Samples.{offsets_of}
use Rattle.abuf_raster.specs.Triangle.{Triangle}
use Rattle.abuf_resolve.specs.Sums.{IsSmall, region_sums}
use Rattle.abuf_picture.specs.Picture.{total}
use Rattle.abuf_band.proofs.Above.{above, above_all, sums_next}
use Rattle.abuf_band.specs.Answers.{Banded, IsAnswer}
use Rattle.abuf_band.specs.Bands.{band_region, band_total}
use Rattle.abuf_band.proofs.Fullness.{none_full}
use Rattle.abuf_band.proofs.Stops.{stopped}
use Rattle.abuf_band.proofs.rendering.render_bands.Goals as goal

pub returns-in_err-more : goal.returns-in_err-more
returns-in_err-more g c =
    let a = c.args in
    let image : Banded = record { width = a.width; height = a.height; pattern = a.pattern; background = a.background; bands = a.bands; nodes = a.nodes } in
    let why : IsAnswer a.projected.now.tris a.projected.now.paints image (Err c.in_err-more.field-0.0) =
    stopped _ _ c.of-primitives.ensures.triangles a.projected.now.paints image _ c.loop-band.band c.in_err-more.field-0.0 c.band_region.ensures refl refl c.loop-band-test.true c.loop-band.invariant.fit c.in_err-more.ensures in
    search rules

pub loop-band-preserved : goal.loop-band-preserved
loop-band-preserved g c =
    let a = c.args in
    let band : ℕ = c.loop-band.band in
    let triangles : List Triangle = a.projected.now.tris in
    let offsets : List (ℤ × ℤ) = offsets_of a.pattern in
    let sums_of : Region → List PixelSum = region_sums offsets a.background triangles a.projected.now.paints in
    let old : List PixelSum = c.loop-band.sums.items in
    let more : List PixelSum = c.in_ok-more.more in
    let drawn = rw (c.of-primitives.ensures.triangles, c.of-primitives.ensures.paints) at c.in_ok-more.ensures in
    let here : c.band_region.result ≡ band_region a.width a.height a.bands band = c.band_region.ensures in
    let more_are : more ≡ sums_of (band_region a.width a.height a.bands band) = drawn.are ∙ ap sums_of here in
    let new : List PixelSum = c.extend_from_slice.new.self.items in
    let grown : new ≡ old ++ more = subst (λ (xs : List PixelSum). new ≡ old ++ xs) c.as_slice.ensures c.in_ok-extend_from_slice.ensures.items in
    let next : sums_of (above (whole_image a.width a.height) a.bands band) ++ sums_of (band_region a.width a.height a.bands band) ≡ sums_of (above (whole_image a.width a.height) a.bands (band + 1)) =
    sums_next (whole_image a.width a.height) a.bands c.requires.bands.0 c.requires.bands.1 c.requires.size.width_some offsets a.background triangles a.projected.now.paints band in
    record {
      sums = grown ∙ (ap₂ ◌++◌ c.loop-band.invariant.sums more_are ∙ next);
      small = subst (All (IsSmall (length offsets))) (sym grown) (All-append (IsSmall (length offsets)) old more c.loop-band.invariant.small drawn.small);
      fit = below_more (λ (k : ℕ). band_total triangles a.pattern a.width a.height a.bands k ≤ a.nodes) band c.loop-band.invariant.fit
          (subst (λ (r : Region). total triangles a.pattern r ≤ a.nodes) here drawn.fit);
    }

pub returns : goal.returns
returns g c =
    let a = c.args in
    let last : c.loop-band.band ≡ a.bands = omega arith in
    let all : c.from_vec.result ≡ c.loop-band.sums.items = c.from_vec.ensures in
    record {
      none_full = none_full (band_total a.projected.now.tris a.pattern a.width a.height a.bands) a.bands a.nodes (λ j below. c.loop-band.invariant.fit j (omega arith));
      are =
          all ∙ (c.loop-band.invariant.sums
          ∙ (ap (λ (k : ℕ). region_sums (offsets_of a.pattern) a.background a.projected.now.tris a.projected.now.paints (above (whole_image a.width a.height) a.bands k)) last
          ∙ ap (region_sums (offsets_of a.pattern) a.background a.projected.now.tris a.projected.now.paints) (above_all (whole_image a.width a.height) a.bands c.requires.bands.0 c.requires.bands.1)));
      small = subst (All (IsSmall (length (offsets_of a.pattern)))) (sym all) c.loop-band.invariant.small;
    }
