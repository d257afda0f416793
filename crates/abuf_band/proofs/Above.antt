-- What the rows above a band have, band by band.
use Rattle.std.proofs.Common.{◌≡◌, ℕ, zero, suc, ◌+◌, ◌-◌, ◌≤◌, ℤ, List, ◌++◌, map, sum, ap, ap₂, ◌∙◌, sym, subst, arith}
use Rattle.std.specs.List.{range_with_len}
use Rattle.std.proofs.lemmas.List.FromFn.{sum_by-map-range_with_len_more}
use Rattle.abuf_num.specs.declared.plain.Paint.{Paint}
use Rattle.abuf_num.specs.declared.plain.PixelSum.{PixelSum}
use Rattle.abuf_raster.specs.declared.pattern.Pattern.{Pattern}
use Rattle.abuf_raster.specs.Region.{Region, rectangle}
use Rattle.abuf_raster.specs.Samples.{offsets_of}
use Rattle.abuf_raster.specs.Triangle.{Triangle}
use Rattle.abuf_resolve.specs.Sums.{region_sums}
use Rattle.abuf_picture.specs.Picture.{total}
use Rattle.abuf_band.specs.Rows.{first_row, band_of}
use Rattle.abuf_band.proofs.Rows.{first_row_zero, first_row_all, rows_next}
use Rattle.abuf_resolve.proofs.Stacked.{sums_stacked}
use Rattle.abuf_band.proofs.Placed.{fragments_stacked}

-- The rows above band k.
abbrev pub above : Region → ℕ → ℕ → Region
above r count k = rectangle r.x0 r.y0 r.w (first_row r.h count k)

module _ (r : Region) (count : ℕ) (some : 1 ≤ count) (few : count ≤ r.h) where
  -- Above the first band there are no rows.
  pub above_none : above r count 0 ≡ rectangle r.x0 r.y0 r.w 0
  above_none = ap (rectangle r.x0 r.y0 r.w) (first_row_zero r.h count)

  -- Those above the first band after the last are the region.
  pub above_all : above r count count ≡ r
  above_all = ap (rectangle r.x0 r.y0 r.w) (first_row_all r.h count some)

  -- With band k they are those above the next.
  pub above_next : (k : ℕ) → rectangle r.x0 r.y0 r.w (first_row r.h count k + (first_row r.h count (k + 1) - first_row r.h count k)) ≡ above r count (k + 1)
  above_next k = ap (rectangle r.x0 r.y0 r.w) (rows_next r.h count k some few)

  module _ (wide : 1 ≤ r.w) where
    module _ (offsets : List (ℤ × ℤ)) (background : List ℕ) (triangles : List Triangle) (paints : List Paint) where
      abbrev sums_of : Region → List PixelSum
      sums_of s = region_sums offsets background triangles paints s

      -- The sums of band k come after those above it.
      pub sums_next : (k : ℕ) → sums_of (above r count k) ++ sums_of (band_of r count k) ≡ sums_of (above r count (k + 1))
      sums_next k =
          sums_stacked r.x0 r.y0 r.w wide offsets background triangles paints (first_row r.h count k) (first_row r.h count (k + 1) - first_row r.h count k)
          ∙ ap sums_of (above_next k)

    module _ (triangles : List Triangle) (pattern : Pattern) where
      -- What band k and the rows above it have, the rows above the next have.
      pub total_next : (k : ℕ) → total triangles pattern (above r count k) + total triangles pattern (band_of r count k) ≡ total triangles pattern (above r count (k + 1))
      total_next k =
          fragments_stacked r.x0 r.y0 r.w wide triangles 0 (offsets_of pattern) (first_row r.h count k) (first_row r.h count (k + 1) - first_row r.h count k)
          ∙ ap (total triangles pattern) (above_next k)

      -- Above the first band there are no fragments.
      pub total_none : total triangles pattern (above r count 0) ≡ 0
      total_none =
          let at : ℕ → ℕ → ℕ = λ y rows. total triangles pattern (rectangle r.x0 y r.w rows) in
          let twice : at r.y0 0 + at r.y0 0 ≡ at r.y0 0 = ap₂ (λ (y rows : ℕ). at r.y0 0 + at y rows) (omega arith) (omega arith) ∙ (fragments_stacked r.x0 r.y0 r.w wide triangles 0 (offsets_of pattern) 0 0 ∙ ap (at r.y0) (omega arith)) in
          ap (total triangles pattern) above_none ∙ omega arith

      -- The totals of the first k bands add up to that of the rows above band k.
      pub total_above : (k : ℕ) → sum (map (λ (j : ℕ). total triangles pattern (band_of r count j)) (range_with_len 0 k)) ≡ total triangles pattern (above r count k)
      total_above zero = sym total_none
      total_above (suc k) =
          let f : ℕ → ℕ = λ (j : ℕ). total triangles pattern (band_of r count j) in
          subst (λ (j : ℕ). sum (map f (range_with_len 0 j)) ≡ total triangles pattern (above r count j)) (let e : k + 1 ≡ suc k = omega arith in e)
          (sum_by-map-range_with_len_more (λ (x : ℕ). x) f 0 k k (omega arith)
          ∙ (ap (λ (n : ℕ). n + f k) (total_above k) ∙ total_next k))
