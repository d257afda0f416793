use Rattle.std.proofs.Common.{◌≡◌, ◌∙◌, ap, ℤ, pos, slice_index_or}
use Rattle.abuf_raster.specs.declared.point.Point.{Point}
use Rattle.abuf_raster.specs.Triangle.{Triangle, positive_order}
use Rattle.abuf_raster.specs.Samples.{offsets_of, sample_position}
use Rattle.abuf_raster.specs.Plane.{sum_at}
use Rattle.std.proofs.lemmas.Bool.{and_parts}
use Rattle.abuf_raster.proofs.Keys.{plane_of, key_of, key_told}
use Rattle.abuf_raster.proofs.plane.DepthPlane.key.Goals as goal

pub returns-in-Some-clause-key : goal.returns-in-Some-clause-key
returns-in-Some-clause-key c =
    let u : Triangle = positive_order c.args.self.now in
    let p = c.in-Some.coefficients in
    let s : Point = sample_position (slice_index_or (offsets_of c.args.pattern) c.args.k (pos 0, pos 0)) c.args.x c.args.y in
    let same : c.sample_position.result ≡ s = c.sample_position.ensures.value ∙ ap (λ (o : ℤ × ℤ). sample_position o c.args.x c.args.y) c.offset.ensures.value in
    let plane = plane_of c.args.self.now c.self.inside.triangle.value c.self.inside.coefficients p c.self.invariant c.in-Some.is c.self.view_is in
    key_told u p s c.key.result plane (key_of u p s plane (and_parts _ _ c.requires.covered).1)
    (λ n e. c.key.ensures.key n (ap (sum_at p) same ∙ e))
