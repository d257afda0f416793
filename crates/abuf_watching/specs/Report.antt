-- What is written of a watched drawing, from the primitives alone.
use Rattle.std.specs.Prelude.{ℕ, ◌+◌, ◌++◌, ℤ, List, codes, flat_map, slice_index_or, sum_by}
use Rattle.std.specs.Fmt.{decimal}
use Rattle.abuf_num.specs.declared.plain.Paint.{Paint}
use Rattle.abuf_num.specs.declared.plain.PixelSum.{PixelSum}
use Rattle.abuf_raster.specs.declared.fragment.Fragment.{Fragment}
use Rattle.abuf_raster.specs.declared.pattern.Pattern.{Pattern}
use Rattle.abuf_raster.specs.Region.{Region}
use Rattle.abuf_raster.specs.Samples.{offsets_of}
use Rattle.abuf_raster.specs.Triangle.{Triangle}
use Rattle.abuf_resolve.specs.Laws.{x_at, y_at}
use Rattle.abuf_resolve.specs.Pixel.{pixel_fragments}
use Rattle.abuf_resolve.specs.Sums.{region_sums}
use Rattle.abuf_picture.specs.Picture.{longest, total}

-- A fragment: the number of its primitive and its coverage mask.
abbrev pub fragment_text : Fragment → List ℕ
fragment_text f = codes " prim " ++ decimal f.prim ++ codes " mask " ++ decimal f.mask

-- The line of pixel (x, y), with these fragments.
abbrev pub pixel_line : ℕ → ℕ → List Fragment → List ℕ
pixel_line x y fragments = codes "pixel " ++ decimal x ++ codes " " ++ decimal y ++ flat_map fragment_text fragments ++ codes "\n"

-- The line of the pixel at a place: its fragments by ascending number of their primitives.
abbrev pub place_line : List (ℤ × ℤ) → List Triangle → Region → ℕ → List ℕ
place_line offsets triangles r place =
    pixel_line (x_at r place) (y_at r place) (pixel_fragments offsets triangles (x_at r place) (y_at r place))

-- The sums of a pixel's three channels, added up.
abbrev pub channel_sum : PixelSum → ℕ
channel_sum s = slice_index_or s.channels 0 0 + slice_index_or s.channels 1 0 + slice_index_or s.channels 2 0

-- Three lines, each a name and a number.
abbrev pub numbers_text : ℕ → ℕ → ℕ → List ℕ
numbers_text fragments most sum =
    codes "fragments " ++ decimal fragments ++ codes "\nlongest " ++ decimal most ++ codes "\nsum " ++ decimal sum ++ codes "\n"

-- The line of each place. Then the number of all fragments, the length of the longest list of a pixel, and the sums of all
-- pixels over their samples, added up.
abbrev pub report_text : List Triangle → List Paint → Pattern → List ℕ → Region → List ℕ → List ℕ
report_text triangles paints pattern background r places =
    flat_map (place_line (offsets_of pattern) triangles r) places
    ++ numbers_text (total triangles pattern r) (longest triangles pattern r) (sum_by channel_sum (region_sums (offsets_of pattern) background triangles paints r))
