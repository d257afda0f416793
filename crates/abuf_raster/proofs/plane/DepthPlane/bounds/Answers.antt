use Rattle.std.proofs.Common.{◌≡◌, ◌∙◌, ◌≤◌, ◌<◌, ◌*◌, ◌+◌, ap, sym, subst, ℕ, pos, ◌+ℤ◌, ◌-ℤ◌, w64, length, slice_index_or, unsigned_abs, true}
use Rattle.abuf_raster.specs.declared.point.Point.{Point}
use Rattle.abuf_raster.specs.Triangle.{Triangle, positive_order}
use Rattle.abuf_raster.specs.Samples.{offsets_of, reach_of, sample_position, pixel_centre}
use Rattle.abuf_raster.specs.Coverage.{covers}
use Rattle.abuf_raster.specs.Depth.{weighted_depth, depth_key}
use Rattle.abuf_raster.specs.Slopes.{slope_across, slope_down}
use Rattle.std.specs.Int.{int_wrap}
use Rattle.abuf_raster.specs.Plane.{sum_at}
use Rattle.abuf_raster.proofs.Bounds.{sample_position-centre}
use Rattle.std.proofs.lemmas.Bool.{and_parts}
use Rattle.abuf_raster.proofs.Keys.{plane_of, key_of, between_bounds, near_centre}
use Rattle.abuf_raster.proofs.Spread.{sample_reach}
use Rattle.abuf_raster.proofs.plane.DepthPlane.bounds.Goals as goal
use Rattle.abuf_raster.proofs.plane.DepthPlane.bounds.Goals.{After-bounds}

found : (c : After-bounds) (k : ℕ) → k < length (offsets_of c.args.pattern) → covers c.args.self.now (offsets_of c.args.pattern) c.args.x c.args.y k ≡ true
    → (c.bounds.result.0 ≤ depth_key c.args.self.now (offsets_of c.args.pattern) c.args.x c.args.y k) × (depth_key c.args.self.now (offsets_of c.args.pattern) c.args.x c.args.y k ≤ c.bounds.result.1)
found c k l h =
    let u : Triangle = positive_order c.args.self.now in
    let p = c.in-Some.coefficients in
    let d : ℕ = p.area.divisor in
    let s : Point = sample_position (slice_index_or (offsets_of c.args.pattern) k (pos 0, pos 0)) c.args.x c.args.y in
    let m : Point = pixel_centre c.args.x c.args.y in
    let same : c.sample_position.result ≡ m = c.sample_position.ensures.value ∙ sample_position-centre c.args.x c.args.y in
    let plane = plane_of c.args.self.now c.self.inside.triangle.value c.self.inside.coefficients p c.self.invariant c.in-Some.is c.self.view_is in
    let key = key_of u p s plane (and_parts _ _ h).1 in
    let n = sample_reach c.args.pattern k c.args.x c.args.y l in
    let spread : c.spread-spread.result ≡ (unsigned_abs (slope_across u) + unsigned_abs (slope_down u)) * (16 * reach_of c.args.pattern) =
    c.spread-spread.ensures.value ∙ (λ i. (unsigned_abs (plane.to_right i) + unsigned_abs (plane.to_bottom i)) * (16 * c.reach.ensures i)) in
    let near = subst (λ (j : ℕ). unsigned_abs (weighted_depth u s -ℤ weighted_depth u m) ≤ j) (sym spread) (near_centre u m s (16 * reach_of c.args.pattern) n.0 n.1) in
    let b = between_bounds u p m s c.bounds.result.0 c.bounds.result.1 c.spread-spread.result plane key c.spread-spread.ensures.small near
    (λ top few e. c.bounds.ensures.between top few (ap (λ (q : Point). int_wrap w64 (sum_at p q +ℤ pos c.spread-spread.result)) same ∙ e)) in
    (subst (λ (j : ℕ). c.bounds.result.0 ≤ j) (sym key.key) b.0, subst (λ (j : ℕ). j ≤ c.bounds.result.1) (sym key.key) b.1)

pub returns-in-Some-clause-low : goal.returns-in-Some-clause-low
returns-in-Some-clause-low c = λ k l h. (found c k l h).0

pub returns-in-Some-clause-high : goal.returns-in-Some-clause-high
returns-in-Some-clause-high c = λ k l h. (found c k l h).1

pub returns-in-None-clause-low : goal.returns-in-None-clause-low
returns-in-None-clause-low c =
    subst (λ (t : Triangle). (k : ℕ) → k < length (offsets_of c.args.pattern) → covers t (offsets_of c.args.pattern) c.args.x c.args.y k ≡ true → c.depth_bounds.result.0 ≤ depth_key t (offsets_of c.args.pattern) c.args.x c.args.y k)
    (sym c.requires.plane) c.depth_bounds.ensures.low

pub returns-in-None-clause-high : goal.returns-in-None-clause-high
returns-in-None-clause-high c =
    subst (λ (t : Triangle). (k : ℕ) → k < length (offsets_of c.args.pattern) → covers t (offsets_of c.args.pattern) c.args.x c.args.y k ≡ true → depth_key t (offsets_of c.args.pattern) c.args.x c.args.y k ≤ c.depth_bounds.result.1)
    (sym c.requires.plane) c.depth_bounds.ensures.high
