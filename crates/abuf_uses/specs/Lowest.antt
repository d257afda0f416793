-- The sums of a region where each sample has its lowest primitives alone.
use Rattle.std.specs.Prelude.{ℕ, ◌+◌, ◌*◌, ◌/◌, ◌%◌, ℤ, List, length, map}
use Rattle.std.specs.List.{range_with_len}
use Rattle.abuf_num.specs.declared.plain.Paint.{Paint}
use Rattle.abuf_num.specs.declared.plain.PixelSum.{PixelSum}
use Rattle.abuf_raster.specs.Region.{Region}
use Rattle.abuf_raster.specs.Triangle.{Triangle}
use Rattle.abuf_resolve.specs.Sums.{summed}
use Rattle.abuf_peel.specs.Layers.{layer}

-- The colour of sample k of pixel (x, y) where its lowest n primitives are laid over the background.
abbrev pub lowest_colour : List (ℤ × ℤ) → List ℕ → List Triangle → List Paint → ℕ → ℕ → ℕ → ℕ → List ℕ
lowest_colour offsets background triangles paints n x y k =
    layer offsets background triangles paints (record { x = x; y = y; k = k }) n

-- The sums over the samples of the pixel at this place of a region.
abbrev pub lowest_sum : List (ℤ × ℤ) → List ℕ → List Triangle → List Paint → ℕ → Region → ℕ → PixelSum
lowest_sum offsets background triangles paints n r place =
    summed (lowest_colour offsets background triangles paints n (r.x0 + place % r.w) (r.y0 + place / r.w)) (length offsets)

-- The sums over the samples of all pixels of the region, by ascending place.
abbrev pub lowest_sums : List (ℤ × ℤ) → List ℕ → List Triangle → List Paint → ℕ → Region → List PixelSum
lowest_sums offsets background triangles paints n r =
    map (lowest_sum offsets background triangles paints n r) (range_with_len 0 (r.w * r.h))
