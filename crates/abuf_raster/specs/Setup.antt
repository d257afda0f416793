-- What a setup keeps of a triangle in positive order.
use Rattle.std.specs.Prelude.{◌≡◌, true, false, ℕ, ◌+◌, ◌-◌, ◌*◌, ◌^◌, ◌<◌, ◌≤◌, List, length, get_or, ℤ, pos, neg_ℤ, unsigned_abs}
use Rattle.abuf_raster.specs.declared.setup.Extremes.{Extremes}
use Rattle.abuf_raster.specs.declared.setup.EdgeLimits.{EdgeLimits}
use Rattle.abuf_raster.specs.declared.setup.SampleLimits.{SampleLimits}
use Rattle.abuf_raster.specs.declared.setup.Setup.{Setup}
use Rattle.abuf_raster.specs.declared.point.Point.{Point}
use Rattle.abuf_raster.specs.Triangle.{Triangle}
use Rattle.abuf_raster.specs.declared.tile.Tile.{Tile}
use Rattle.abuf_raster.specs.Samples.{pixel_centre}
use Rattle.abuf_raster.specs.Values.{Numbers, values_at, farthest, plus_all, sample_change, sample_changes, AreUp, AreAtMost}
use Rattle.abuf_raster.specs.TrioNumbers.{numbers_of}

-- The changes to the samples below a number lie between two bounds, which fit a width of this reach.
pub record AreBetween (reach : ℕ) (t : Triangle) (offsets : List (ℤ × ℤ)) (count : ℕ) (min max : Numbers) : Type 0 where
  pub low : (k : ℕ) → k < count → AreUp min (sample_changes t offsets k)
  pub high : (k : ℕ) → k < count → AreUp (sample_changes t offsets k) max
  pub min_small : AreAtMost (reach * reach) min
  pub max_small : AreAtMost (reach * reach) max

abbrev pub AreExtremes : {V : Type 0} → (V → ℤ) → ℕ → Triangle → List (ℤ × ℤ) → ℕ → Extremes V → Type 0
AreExtremes number reach t offsets count e = AreBetween reach t offsets count (numbers_of number e.min) (numbers_of number e.max)

-- The setup has the values at the centre of pixel (0, 0), and bounds of the changes to all samples.
pub record IsSetup {V : Type 0} (number : V → ℤ) (reach : ℕ) (t : Triangle) (offsets : List (ℤ × ℤ)) (s : Setup V) : Type 0 where
  pub start : numbers_of number s.start ≡ values_at t (pixel_centre 0 0)
  pub samples : AreExtremes number reach t offsets (length offsets) s.samples

-- The least values of the edge from a to b at a pixel's centre with which it accepts each of eight samples, from one on.
pub record AreLimitsFrom (a b : Point) (offsets : List (ℤ × ℤ)) (from : ℕ) (limits : List ℤ) : Type 0 where
  pub each : (k : ℕ) → k < 8 → from + k < length offsets → get_or limits k (pos 0) ≡ neg_ℤ (sample_change a b offsets (from + k))
  pub small : (k : ℕ) → k < 8 → from + k < length offsets → unsigned_abs (neg_ℤ (sample_change a b offsets (from + k))) ≤ 2 ^ 54

-- With which it accepts each of at most sixteen samples.
pub record AreLimits (a b : Point) (offsets : List (ℤ × ℤ)) (limits : EdgeLimits) : Type 0 where
  pub low : AreLimitsFrom a b offsets 0 limits.low
  pub high : AreLimitsFrom a b offsets 8 limits.high

-- The same of the three edges.
pub record AreSampleLimits (t : Triangle) (offsets : List (ℤ × ℤ)) (limits : SampleLimits) : Type 0 where
  pub ab : AreLimits t.a t.b offsets limits.ab
  pub bc : AreLimits t.b t.c offsets limits.bc
  pub ca : AreLimits t.c t.a offsets limits.ca

-- The greatest and the least numbers in a tile, from those at its first pixel and the extremes in a pixel.
abbrev pub highest : Triangle → Numbers → Tile → Numbers → Numbers
highest t n tile max = plus_all (plus_all n (farthest false t (tile.w - 1) (tile.h - 1))) max

abbrev pub lowest : Triangle → Numbers → Tile → Numbers → Numbers
lowest t n tile min = plus_all (plus_all n (farthest true t (tile.w - 1) (tile.h - 1))) min
