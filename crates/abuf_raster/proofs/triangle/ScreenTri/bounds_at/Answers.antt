use Rattle.std.proofs.Common.{◌∙◌, arith}
use Rattle.std.specs.Int.{w128}
use Rattle.std.proofs.lemmas.Int.{to_z-of_z}
use Rattle.abuf_raster.specs.Depth.{weighted_depth, spread}
use Rattle.abuf_raster.proofs.Bounds.{back128}
use Rattle.abuf_raster.proofs.Spread.{low_key, high_key}
use Rattle.abuf_raster.proofs.triangle.ScreenTri.bounds_at.Goals as goal

pub returns-clause-low : goal.returns-clause-low
returns-clause-low c = λ positive key sum near is.
    let low = c.quotient_below-low.ensures.low key (low_key key _ _ _ sum (weighted_depth c.args.self.now c.args.position) c.args.area (spread c.args.self.now)
    (back128 c.weighted_depth-sum.result (omega arith) ∙ c.weighted_depth-sum.ensures.value) (back128 c.spread-spread.result (omega arith) ∙ c.spread-spread.ensures.value)
    (to_z-of_z w128 c.args.area (record { sfits = c.ranges.area.sfits })) positive near is) in
    omega (arith, low, c.min.ensures)

pub returns-clause-high : goal.returns-clause-high
returns-clause-high c = λ positive key sum small near is.
    c.quotient_above-high.ensures.high key small (high_key key _ _ _ sum (weighted_depth c.args.self.now c.args.position) c.args.area (spread c.args.self.now)
    (back128 c.weighted_depth-sum.result (omega arith) ∙ c.weighted_depth-sum.ensures.value) (back128 c.spread-spread.result (omega arith) ∙ c.spread-spread.ensures.value)
    (to_z-of_z w128 c.args.area (record { sfits = c.ranges.area.sfits })) positive near is)
