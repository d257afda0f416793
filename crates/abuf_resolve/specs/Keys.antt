-- Bounds of depth keys.
use Rattle.std.specs.Prelude.{◌≡◌, ℕ, ◌<◌, ◌≤◌, true, ℤ, List, length}
use Rattle.abuf_raster.specs.Triangle.{Triangle}
use Rattle.abuf_raster.specs.Coverage.{covers}
use Rattle.abuf_raster.specs.Depth.{depth_key}
use Rattle.abuf_resolve.specs.Colour.{triangle_at}
use Rattle.abuf_resolve.specs.Words.{layer_word}

-- At no sample of pixel (x, y) that the triangle covers is its depth key below this,
abbrev pub NoKeyBelow : Triangle → List (ℤ × ℤ) → ℕ → ℕ → ℕ → Type 0
NoKeyBelow t offsets x y low = (k : ℕ) → k < length offsets → covers t offsets x y k ≡ true → low ≤ depth_key t offsets x y k

-- and at none is it above this.
abbrev pub NoKeyAbove : Triangle → List (ℤ × ℤ) → ℕ → ℕ → ℕ → Type 0
NoKeyAbove t offsets x y high = (k : ℕ) → k < length offsets → covers t offsets x y k ≡ true → depth_key t offsets x y k ≤ high

-- No word of primitive n in a sample that it covers is above this.
abbrev pub NoWordAbove : List Triangle → ℕ → ℕ → Type 0
NoWordAbove triangles n high = (offsets : List (ℤ × ℤ)) (x y k : ℕ) → covers (triangle_at triangles n) offsets x y k ≡ true → layer_word offsets triangles x y k n ≤ high
