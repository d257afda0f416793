use Rattle.std.proofs.Common.{◌≡◌, ◌∙◌, ap, subst}
use Rattle.abuf_raster.specs.Region.{Region, whole_image}
use Rattle.abuf_view.specs.Camera.{Camera}
use Rattle.abuf_watching.specs.Grid.{grid}
use Rattle.abuf_watching.specs.Show.{image_of}
use Rattle.abuf_watching.proofs.Told.{watch_of}
use Rattle.abuf_watching.proofs.show.show.Goals as goal

pub returns : goal.returns
returns g c =
    let w = c.width.ensures ∙ ap (λ (k : Camera). k.width) c.camera.ensures.value in
    let h = c.height.ensures ∙ ap (λ (k : Camera). k.height) c.camera-2.ensures.value in
    let image : c.whole_image-region.result ≡ image_of c.args.job.now = c.whole_image-region.ensures ∙ (λ i. whole_image (w i) (h i)) in
    let places = c.deref.ensures.value ∙ c.in_ok-places.ensures.value in
    watch_of c.args.job.now c.of-primitives.result.triangles.now c.args.projected.now.tris c.of-primitives.result.paints.now c.args.projected.now.paints c.pattern-pattern.result c.background.result c.whole_image-region.result c.deref.result.now
    c.watch_and_report.result c.of-primitives.ensures.triangles c.of-primitives.ensures.paints c.pattern-pattern.ensures.value c.background.ensures.value image places c.watch_and_report.ensures.report c.watch_and_report.ensures.looks
