use Rattle.std.proofs.Common.{◌≡◌, ◌∙◌, ◌≤◌, ◌<ℤ◌, ◌-ℤ◌, ℕ, ℤ, pos, ap, sym, subst, max, get_or, unsigned_abs, to_z, of_z, arith}
use Rattle.std.specs.Int.{w128}
use Rattle.abuf_num.specs.Division.{floor_div}
use Rattle.abuf_raster.specs.declared.point.Point.{Point}
use Rattle.abuf_raster.specs.Edge.{edge_function}
use Rattle.abuf_raster.specs.Triangle.{Triangle, positive_order}
use Rattle.abuf_raster.specs.Samples.{offsets_of, sample_position, pixel_centre}
use Rattle.abuf_raster.specs.Depth.{weighted_depth, depth_of, spread, max_depth}
use Rattle.abuf_raster.proofs.Bounds.{back128, sample_position-centre}
use Rattle.abuf_raster.proofs.Spread.{key_at}
use Rattle.abuf_raster.proofs.triangle.depth.depth_bounds.Goals as goal
use Rattle.abuf_raster.proofs.triangle.depth.depth_bounds.Goals.{After-bounds_at}

small_max : (a b c : ℕ) → a ≤ 16777215 → b ≤ 16777215 → c ≤ 16777215 → max a (max b c) ≤ 16777215
small_max a b c h k l = omega arith

turned : (c : After-bounds_at) → max_depth (positive_order c.args.t.now) ≤ 16777215
turned c = subst (λ (u : Triangle). max_depth u ≤ 16777215) (c.t.view_is ∙ c.positive_order-t.ensures.value) (small_max _ _ _ c.t.invariant.qa_small c.t.invariant.qb_small c.t.invariant.qc_small)

area : (c : After-bounds_at) → to_z w128 (of_z w128 c.edge_function-area.result) ≡ (let u : Triangle = positive_order c.args.t.now in edge_function u.a u.b u.c)
area c = back128 c.edge_function-area.result (omega arith) ∙ (c.edge_function-area.ensures.value ∙ ap (λ (u : Triangle). edge_function u.a u.b u.c) (c.t.view_is ∙ c.positive_order-t.ensures.value))

near : (c : After-bounds_at) (w : ℤ) → unsigned_abs (w -ℤ weighted_depth (positive_order c.args.t.now) (pixel_centre c.args.x c.args.y)) ≤ spread (positive_order c.args.t.now)
    → unsigned_abs (w -ℤ weighted_depth c.positive_order-t.result c.sample_position-centre.result) ≤ spread c.positive_order-t.result
near c w h =
    subst (λ (u : Triangle). unsigned_abs (w -ℤ weighted_depth u c.sample_position-centre.result) ≤ spread u) (sym c.positive_order-t.ensures.value)
    (subst (λ (m : Point). unsigned_abs (w -ℤ weighted_depth (positive_order c.args.t.now) m) ≤ spread (positive_order c.args.t.now)) (sym (c.sample_position-centre.ensures.value ∙ sample_position-centre c.args.x c.args.y)) h)

pub returns : goal.returns
returns c =
    let d = (goal.at.returns c).After-bounds_at in
    let u : Triangle = positive_order c.args.t.now in
    let os = offsets_of c.args.pattern in
    record {
      rising = c.bounds_at.ensures.rising;
      small = c.bounds_at.ensures.small;
      low = λ k l h.
          let f = key_at c.args.t.now c.args.pattern k c.args.x c.args.y l (turned d) h in
          let s : Point = sample_position (get_or os k (pos 0, pos 0)) c.args.x c.args.y in
          c.bounds_at.ensures.low (subst (λ (z : ℤ). pos 0 <ℤ z) (sym (area d)) f.positive) (unsigned_abs (depth_of u s)) (weighted_depth u s) (near d (weighted_depth u s) f.near) (ap (floor_div (weighted_depth u s)) (area d) ∙ f.value);
      high = λ k l h.
          let f = key_at c.args.t.now c.args.pattern k c.args.x c.args.y l (turned d) h in
          let s : Point = sample_position (get_or os k (pos 0, pos 0)) c.args.x c.args.y in
          c.bounds_at.ensures.high (subst (λ (z : ℤ). pos 0 <ℤ z) (sym (area d)) f.positive) (unsigned_abs (depth_of u s)) (weighted_depth u s) f.small (near d (weighted_depth u s) f.near) (ap (floor_div (weighted_depth u s)) (area d) ∙ f.value);
    }
