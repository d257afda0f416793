-- What `pick` writes: the fragments of one pixel, and their order in each of its samples.
use Rattle.std.specs.Prelude.{◌++◌, ℕ, ℤ, List, length, map, codes, flat_map}
use Rattle.std.specs.Fmt.{decimal}
use Rattle.std.specs.List.{range_with_len}
use Rattle.abuf_raster.specs.declared.fragment.Fragment.{Fragment}
use Rattle.abuf_raster.specs.Samples.{offsets_of}
use Rattle.abuf_raster.specs.Triangle.{Triangle}
use Rattle.abuf_resolve.specs.Colour.{layers, layer_at}
use Rattle.abuf_resolve.specs.Pixel.{pixel_fragments}
use Rattle.abuf_top.specs.Image.{Drawing}

-- A fragment's line: the number of its primitive and its coverage mask.
abbrev pub fragment_line : Fragment → List ℕ
fragment_line f = codes "prim " ++ decimal f.prim ++ codes " mask " ++ decimal f.mask ++ codes "\n"

-- The number of fragments, and then a line for each.
abbrev pub fragments_text : List Fragment → List ℕ
fragments_text fragments = codes "fragments " ++ decimal (length fragments) ++ codes "\n" ++ flat_map fragment_line fragments

-- What a sample's line tells of a primitive: its number, and its depth key there.
abbrev pub layer_text : ℕ × ℕ → List ℕ
layer_text layer = codes " prim " ++ decimal layer.0 ++ codes " depth " ++ decimal layer.1

-- The line of sample k.
abbrev pub sample_line : ℕ → List (ℕ × ℕ) → List ℕ
sample_line k told = codes "sample " ++ decimal k ++ flat_map layer_text told ++ codes "\n"

-- The line of sample k of pixel (x, y): the primitives that cover it, from the farthest to the nearest.
abbrev pub line_of : List (ℤ × ℤ) → List Triangle → ℕ → ℕ → ℕ → List ℕ
line_of offsets triangles x y k = sample_line k (map (layer_at offsets triangles x y k) (layers offsets triangles x y k))

-- A line for each of the first n samples.
abbrev pub samples_text : List (ℤ × ℤ) → List Triangle → ℕ → ℕ → ℕ → List ℕ
samples_text offsets triangles x y n = flat_map (line_of offsets triangles x y) (range_with_len 0 n)

-- A line for each of all samples.
abbrev pub all_samples_text : List (ℤ × ℤ) → List Triangle → ℕ → ℕ → List ℕ
all_samples_text offsets triangles x y = samples_text offsets triangles x y (length offsets)

-- The fragments of pixel (x, y) by ascending number of their primitives, and then the samples.
abbrev pub pixel_report : List (ℤ × ℤ) → List Triangle → ℕ → ℕ → List ℕ
pixel_report offsets triangles x y =
    fragments_text (pixel_fragments offsets triangles x y) ++ all_samples_text offsets triangles x y

unfoldable pub report : Drawing → ℕ → ℕ → List ℕ
report d x y = pixel_report (offsets_of d.job.pattern) d.triangles x y
