-- The coverage masks of a triangle in a region.
use Rattle.std.specs.Prelude.{ℕ, ◌+◌, ◌*◌, ◌/◌, ◌%◌, ℤ, List, map}
use Rattle.std.specs.List.{range_with_len}
use Rattle.abuf_raster.specs.Coverage.{mask}
use Rattle.abuf_raster.specs.Region.{Region}
use Rattle.abuf_raster.specs.Triangle.{Triangle}

-- The mask of the pixel at this place of the region.
abbrev pub mask_of_place : Triangle → List (ℤ × ℤ) → Region → ℕ → ℕ
mask_of_place t offsets r place = mask t offsets (r.x0 + place % r.w) (r.y0 + place / r.w)

-- The masks of all pixels of the region, by ascending place.
abbrev pub masks : Triangle → List (ℤ × ℤ) → Region → List ℕ
masks t offsets r = map (mask_of_place t offsets r) (range_with_len 0 (r.w * r.h))
