-- A band that stops the drawing of an image.
use Rattle.std.proofs.Common.{◌≡◌, ℕ, ◌+◌, ◌-◌, ◌<◌, ◌≤◌, List, Some, Err, ap, ap₂, ◌∙◌, arith}
use Rattle.abuf_num.specs.declared.plain.Paint.{Paint}
use Rattle.abuf_raster.specs.Triangle.{Triangle}
use Rattle.abuf_picture.specs.declared.target.Target.{Target}
use Rattle.abuf_picture.specs.Picture.{total}
use Rattle.abuf_band.specs.Answers.{Banded, IsAnswer, IsBandAnswer}
use Rattle.abuf_band.specs.Bands.{band_region, band_total}
use Rattle.abuf_band.specs.declared.fault.BandFault.{BandFault}
use Rattle.abuf_band.specs.declared.fault.BandFault.TheVariants as fault
use Rattle.abuf_band.proofs.Fullness.{first_is}

-- After bands that have nodes, the fault of a band is the image's.
pub stopped : (drawn triangles : List Triangle) → drawn ≡ triangles → (paints : List Paint) (image : Banded) (target : Target) (k : ℕ) (why : BandFault)
    → target.region ≡ band_region image.width image.height image.bands k → target.pattern ≡ image.pattern → target.nodes ≡ image.nodes → k < image.bands
    → ((j : ℕ) → j < k → band_total triangles image.pattern image.width image.height image.bands j ≤ image.nodes)
    → IsBandAnswer drawn paints target (k + 1) (Err why) → IsAnswer triangles paints image (Err why)
stopped drawn triangles same paints image target k (fault.Full band fragments nodes) here pattern pool below fit answer =
    let totals : ℕ → ℕ = band_total triangles image.pattern image.width image.height image.bands in
    let count : fragments ≡ totals k = answer.1.count ∙ (ap (λ (ts : List Triangle). total ts target.pattern target.region) same ∙ ap₂ (total triangles) pattern here) in
    let is : k ≡ band - 1 = omega (arith, answer.0) in
    record {
      from_one = omega (arith, answer.0);
      first = first_is totals image.bands image.nodes k below fit (omega (arith, count, answer.1.more, answer.1.nodes_are, pool)) ∙ ap Some is;
      count = count ∙ ap totals is;
      nodes_are = answer.1.nodes_are ∙ pool;
    }
stopped drawn triangles same paints image target k fault.Memory here pattern pool below fit answer = tt
