-- What drawing the primitives of a shot into the plan's target gives.
use Rattle.std.proofs.Common.{◌≡◌, ◌*◌, List, map, length, subst, refl, ◌∙◌}
use Rattle.std.proofs.lemmas.List.FromFn.{length-map-range_with_len}
use Rattle.abuf_num.specs.declared.plain.Paint.{Paint}
use Rattle.abuf_raster.specs.Region.{whole_image}
use Rattle.abuf_raster.specs.Samples.{offsets_of}
use Rattle.abuf_raster.specs.Triangle.{Triangle as OnScreen}
use Rattle.abuf_scene.specs.declared.triangles.Triangle.{Triangle}
use Rattle.abuf_resolve.specs.Sums.{region_sums}
use Rattle.abuf_view.specs.Camera.{Camera}
use Rattle.abuf_view.specs.Primitives.{Primitive, prims}
use Rattle.abuf_picture.specs.Picture.{total}
use Rattle.abuf_sequence.specs.declared.path.Shot.{Shot}
use Rattle.abuf_sequence.specs.declared.plan.Plan.{Plan}
use Rattle.abuf_sequence.specs.Sequences.{camera_of, seen_of, sums_of, total_of}

module _ (plan : Plan) (scene : List Triangle) (shot : Shot) (camera : Camera) (is : camera ≡ camera_of plan shot) (drawn triangles : List OnScreen) (same : drawn ≡ triangles)
    (triangles_are : triangles ≡ map (λ (p : Primitive). p.triangle) (prims camera scene)) where
  -- The triangles that are drawn are those of the shot.
  those : drawn ≡ map (λ (p : Primitive). p.triangle) (seen_of plan scene shot)
  those = same ∙ subst (λ (k : Camera). triangles ≡ map (λ (p : Primitive). p.triangle) (prims k scene)) is triangles_are

  -- So their fragments are those of its image.
  pub count : total drawn plan.pattern (whole_image plan.width plan.height) ≡ total_of plan scene shot
  unfolding total_of
  count = rw those refl

  -- So are the sums.
  pub sums_are : (given paints : List Paint) → given ≡ paints → paints ≡ map (λ (p : Primitive). p.paint) (prims camera scene)
      → region_sums (offsets_of plan.pattern) plan.background drawn given (whole_image plan.width plan.height) ≡ sums_of plan scene shot
  unfolding sums_of
  sums_are given paints alike paints_are =
      let painted : given ≡ map (λ (p : Primitive). p.paint) (seen_of plan scene shot) =
      alike ∙ subst (λ (k : Camera). paints ≡ map (λ (p : Primitive). p.paint) (prims k scene)) is paints_are in
      rw (those, painted) refl

-- The image has a sum for each pixel.
pub pixels : (plan : Plan) (scene : List Triangle) (shot : Shot) → length (sums_of plan scene shot) ≡ plan.width * plan.height
unfolding sums_of
pixels plan scene shot = length-map-range_with_len _ 0 (plan.width * plan.height)
