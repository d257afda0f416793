-- The plane of a triangle's depth values, in the numbers that an evaluator of keys keeps.
use Rattle.std.specs.Prelude.{◌≡◌, ◌+◌, ◌-◌, ◌*◌, ◌/◌, ◌^◌, ◌<◌, ◌≤◌, ℕ, min, ℤ, pos, ◌+ℤ◌, ◌*ℤ◌}
use Rattle.std.specs.Int.{int_wrap, w64}
use Rattle.abuf_num.specs.declared.limits.TheConstants.{MAX_DEPTH}
use Rattle.abuf_raster.specs.declared.point.Point.{Point}
use Rattle.abuf_raster.specs.declared.plane.Coefficients.{Coefficients}
use Rattle.abuf_raster.specs.Edge.{edge_function}
use Rattle.abuf_raster.specs.Triangle.{Triangle}
use Rattle.abuf_raster.specs.Depth.{weighted_depth, max_depth}
use Rattle.abuf_raster.specs.Slopes.{slope_across, slope_down}

-- The sum at a position that the coefficients stand for, modulo 2^64.
abbrev pub sum_at : Coefficients → Point → ℤ
sum_at p s = int_wrap w64 ((p.start +ℤ p.across *ℤ s.x) +ℤ p.down *ℤ s.y)

-- The depth value of a weighted depth, clamped to the greatest.
abbrev pub value_of : Coefficients → ℕ → ℕ
value_of p sum = min (sum / p.area.divisor) MAX_DEPTH

-- The depth values of sums that are so far below and above that at a position, as 63 bits hold them.
abbrev pub AreBoundsAt : Coefficients → Point → ℕ → ℕ → ℕ → Type 0
AreBoundsAt p centre spread low high =
    (top : ℕ) → top < 2 ^ 63 → int_wrap w64 (sum_at p centre +ℤ pos spread) ≡ pos top → (low ≡ value_of p (top - 2 * spread)) × (high ≡ value_of p top)

-- The coefficients are those of a triangle in positive order: the sum at a position is the weighted depth there, modulo 2^64,
-- and where the triangle covers it, it is below 2^62.
pub record IsPlane (t : Triangle) (p : Coefficients) : Type 0 where
  pub area : edge_function t.a t.b t.c ≡ pos p.area.divisor
  pub nearest : max_depth t ≤ MAX_DEPTH
  pub depths : p.area.divisor * (max_depth t + 1) < 2 ^ 62
  pub to_right : p.across ≡ slope_across t
  pub to_bottom : p.down ≡ slope_down t
  pub sum : (s : Point) → sum_at p s ≡ int_wrap w64 (weighted_depth t s)
