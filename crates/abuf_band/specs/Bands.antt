-- The bands of an image. Band k has the rows from its first row to before the first row of band k + 1.
use Rattle.std.specs.Prelude.{ℕ, nat_lt, List, map, position, Option}
use Rattle.std.specs.List.{range_with_len}
use Rattle.abuf_raster.specs.declared.pattern.Pattern.{Pattern}
use Rattle.abuf_raster.specs.Region.{Region, whole_image}
use Rattle.abuf_raster.specs.Triangle.{Triangle}
use Rattle.abuf_picture.specs.Picture.{total}
use Rattle.abuf_band.specs.Rows.{band_of}
pub use Rattle.abuf_band.specs.Rows.{first_row}

-- The pixels of band k.
abbrev pub band_region : ℕ → ℕ → ℕ → ℕ → Region
band_region width height bands k = band_of (whole_image width height) bands k

-- How many fragments all triangles have in band k.
abbrev pub band_total : List Triangle → Pattern → ℕ → ℕ → ℕ → ℕ → ℕ
band_total triangles pattern width height bands k = total triangles pattern (band_region width height bands k)

-- How many they have in each band.
abbrev pub band_totals : List Triangle → Pattern → ℕ → ℕ → ℕ → List ℕ
band_totals triangles pattern width height bands = map (band_total triangles pattern width height bands) (range_with_len 0 bands)

-- The first band in which they have more fragments than there are nodes.
abbrev pub first_full : List Triangle → Pattern → ℕ → ℕ → ℕ → ℕ → Option ℕ
first_full triangles pattern width height bands nodes = position (nat_lt nodes) (band_totals triangles pattern width height bands)
