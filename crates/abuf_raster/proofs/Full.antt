-- The hits in a block of pixels that all have one mask, counted.
use Rattle.std.proofs.Common.{◌≡◌, ℕ, zero, suc, ◌+◌, ◌*◌, ◌^◌, ◌-◌, ◌<◌, arith, length, length-append}
use Rattle.abuf_raster.specs.declared.pattern.Pattern.{Pattern}
use Rattle.abuf_raster.specs.declared.pattern.Pattern.TheVariants.{One, Two, Four, Eight, Sixteen}
use Rattle.abuf_raster.specs.Samples.{offsets_of}
use Rattle.abuf_raster.specs.Walk.{full_row, full_hits}

row_count : (n m x w y : ℕ) → length (full_row n m x w y) ≡ w
row_count n m x zero y = omega arith
row_count n m x (suc w) y = omega (arith, row_count n m (x + 1) w y)

-- There is a hit for each pixel.
pub full_count : (n m x w y h : ℕ) → length (full_hits n m x w y h) ≡ w * h
full_count n m x w y zero = omega arith
full_count n m x w y (suc h) = omega (arith, length-append (full_row n m x w y) (full_hits n m x w (y + 1) h), row_count n m x w y, full_count n m x w (y + 1) h)

-- The mask of all samples of a pattern isn't 0.
pub some_samples : (p : Pattern) → 0 < 2 ^ length (offsets_of p) - 1
some_samples One = omega arith
some_samples Two = omega arith
some_samples Four = omega arith
some_samples Eight = omega arith
some_samples Sixteen = omega arith
