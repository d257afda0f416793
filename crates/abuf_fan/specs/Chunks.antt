-- The chunks of triangles that are drawn in some order: one for each 64 that follow each other there, and one for the rest.
use Rattle.std.specs.Prelude.{ℕ, ◌≡◌, ◌+◌, ◌*◌, ◌/◌, ◌<◌, ℤ, List, take, drop, length, All}
use Rattle.std.specs.List.{flat_map}
use Rattle.abuf_raster.specs.Region.{Region}
use Rattle.abuf_raster.specs.Triangle.{Triangle}
use Rattle.abuf_raster.specs.Hits.{all_fragments}
use Rattle.abuf_num.specs.Counting.{below, times}

-- the number of chunks of so many triangles
abbrev pub chunks_of : ℕ → ℕ
chunks_of count = (count + 63) / 64

-- the numbers of so many triangles, each once
pub record IsOrder (count : ℕ) (numbers : List ℕ) : Type 0 where
  pub each : (n : ℕ) → times n numbers ≡ below n count
  pub all : length numbers ≡ count
  pub small : All (λ n. n < count) numbers

-- the fragments of the triangle with this number, none where there is no such triangle
abbrev pub fragments_of : List Triangle → List (ℤ × ℤ) → Region → ℕ → List (ℕ × ℕ)
fragments_of ts offsets r n = all_fragments (take 1 (drop n ts)) n offsets r

-- the fragments of chunk p of triangles in this order, none where there is no such chunk
abbrev pub chunk_fragments : List Triangle → List (ℤ × ℤ) → Region → List ℕ → ℕ → List (ℕ × ℕ)
chunk_fragments ts offsets r order p = flat_map (fragments_of ts offsets r) (take 64 (drop (64 * p) order))
