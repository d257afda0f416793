-- The bands of a region: so many groups of rows that follow each other from its top, counted from 0.
use Rattle.std.specs.Prelude.{ℕ, ◌+◌, ◌-◌, ◌*◌, ◌/◌}
use Rattle.abuf_raster.specs.Region.{Region, rectangle}

-- The first row of band k of a region of this height: bands share the rows as evenly as whole rows can be shared.
abbrev pub first_row : ℕ → ℕ → ℕ → ℕ
first_row height count k = k * height / count

-- The pixels of band k.
abbrev pub band_of : Region → ℕ → ℕ → Region
band_of r count k = rectangle r.x0 (r.y0 + first_row r.h count k) r.w (first_row r.h count (k + 1) - first_row r.h count k)
