-- The box of pixels around a triangle.
use Rattle.std.specs.Prelude.{◌≡◌, ℕ, ◌+◌, ◌*◌, ◌<◌, ◌≤◌, List, ℤ, pos, ◌+ℤ◌, ◌-ℤ◌, ◌≤ℤ◌, ◌<ℤ◌}
use Rattle.abuf_raster.specs.Region.{Region}
use Rattle.abuf_raster.specs.declared.bounding_box.BoundingBox.{BoundingBox}
use Rattle.abuf_raster.specs.Triangle.{Triangle}
use Rattle.abuf_raster.specs.Coverage.{mask}

-- A pixel, and a margin round it, lie before a coordinate; or behind it.
abbrev pub IsBefore : ℕ → ℕ → ℤ → Type 0
IsBefore p margin z = pos (256 * p + 256) ≤ℤ (z +ℤ pos 127 -ℤ pos margin)

abbrev pub IsBehind : ℕ → ℕ → ℤ → Type 0
IsBehind p margin z = (z +ℤ pos 128 +ℤ pos margin) <ℤ pos (256 * p + 256)

-- A box within a region holds every pixel of it in which the triangle covers a sample.
pub record IsBoxOf (t : Triangle) (offsets : List (ℤ × ℤ)) (r : Region) (b : BoundingBox) : Type 0 where
  pub x_order : b.left ≤ b.right
  pub y_order : b.top ≤ b.bottom
  pub x_low : r.x0 ≤ b.left
  pub x_high : b.right ≤ r.x0 + r.w
  pub y_low : r.y0 ≤ b.top
  pub y_high : b.bottom ≤ r.y0 + r.h
  pub left : (i j : ℕ) → r.x0 ≤ i → i < b.left → mask t offsets i j ≡ 0
  pub right : (i j : ℕ) → b.right ≤ i → i < r.x0 + r.w → mask t offsets i j ≡ 0
  pub above : (i j : ℕ) → r.y0 ≤ j → j < b.top → mask t offsets i j ≡ 0
  pub under : (i j : ℕ) → b.bottom ≤ j → j < r.y0 + r.h → mask t offsets i j ≡ 0

-- The triangle covers no sample in any pixel of the region.
abbrev pub CoversNone : Triangle → List (ℤ × ℤ) → Region → Type 0
CoversNone t offsets r = (x y : ℕ) → r.x0 ≤ x → x < r.x0 + r.w → r.y0 ≤ y → y < r.y0 + r.h → mask t offsets x y ≡ 0
