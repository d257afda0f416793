-- The pixels that are watched: eight by eight of an image, each in the middle of its part.
use Rattle.std.specs.Prelude.{ℕ, ◌+◌, ◌*◌, ◌/◌, ◌%◌, List, map}
use Rattle.std.specs.List.{range_with_len}
use Rattle.abuf_raster.specs.Region.{Region}

-- The middle of part n of eight.
abbrev pub middle : ℕ → ℕ → ℕ
middle side n = (2 * n + 1) * side / 16

-- The place of the pixel with this number, counted along the rows.
abbrev pub grid_place : Region → ℕ → ℕ
grid_place r n = middle r.h (n / 8) * r.w + middle r.w (n % 8)

-- The places of all of them.
abbrev pub grid : Region → List ℕ
grid r = map (grid_place r) (range_with_len 0 64)
