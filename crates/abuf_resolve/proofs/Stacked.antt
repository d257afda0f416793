-- The sums of regions of one width that stand one on the other.
use Rattle.std.proofs.Common.{◌≡◌, ℕ, ◌+◌, ◌*◌, ◌/◌, ◌%◌, ◌<◌, ℤ, List, ◌++◌, map, ap, ap₂, ◌∙◌, sym, arith}
use Rattle.std.specs.List.{range_with_len}
use Rattle.std.proofs.lemmas.List.{map-append}
use Rattle.std.proofs.lemmas.Nat.{div-mul-add, mod-mul-add, div-add-mod', mod_below}
use Rattle.abuf_num.specs.declared.plain.Paint.{Paint}
use Rattle.abuf_num.specs.declared.plain.PixelSum.{PixelSum}
use Rattle.abuf_raster.specs.Region.{rectangle}
use Rattle.abuf_raster.specs.Triangle.{Triangle}
use Rattle.abuf_raster.proofs.Blocks.{range_cut}
use Rattle.abuf_resolve.specs.Sums.{sums_at, region_sums}
use Rattle.abuf_resolve.proofs.Totals.{same_on_ranges}

-- A place that is so many rows further down has the same column.
pub row_down : (rows w p : ℕ) → 0 < w → ((rows * w + p) % w ≡ p % w) × ((rows * w + p) / w ≡ rows + p / w)
row_down rows w p some =
    let parts : p / w * w + p % w ≡ p = div-add-mod' p w in
    let below : p % w < w = mod_below p w some in
    let whole : rows * w + p ≡ (rows + p / w) * w + p % w = omega (arith, parts) in
    (ap (λ (k : ℕ). k % w) whole ∙ mod-mul-add (rows + p / w) w (p % w) below, ap (λ (k : ℕ). k / w) whole ∙ div-mul-add (rows + p / w) w (p % w) below)

-- The sums of both regions are those of the upper one, and then those of the lower one.
pub sums_stacked : (x y w : ℕ) → 0 < w → (offsets : List (ℤ × ℤ)) (background : List ℕ) (triangles : List Triangle) (paints : List Paint) (upper rows : ℕ)
    → region_sums offsets background triangles paints (rectangle x y w upper) ++ region_sums offsets background triangles paints (rectangle x (y + upper) w rows)
    ≡ region_sums offsets background triangles paints (rectangle x y w (upper + rows))
sums_stacked x y w some offsets background triangles paints upper rows =
    let at : ℕ → ℕ → PixelSum = λ top place. sums_at offsets background triangles paints (x + place % w) (top + place / w) in
    let all : w * upper + w * rows ≡ w * (upper + rows) = omega arith in
    ap (λ (sums : List PixelSum). map (at y) (range_with_len 0 (w * upper)) ++ sums)
    (same_on_ranges (at (y + upper)) (at y) 0 (0 + w * upper) (w * rows) (λ k l.
    let down = row_down upper w k some in
    let here : 0 + w * upper + k ≡ upper * w + k = omega arith in
    let place : 0 + k ≡ k = omega arith in
    ap (at (y + upper)) place
    ∙ (ap₂ (λ (a b : ℕ). sums_at offsets background triangles paints (x + a) b) (sym down.0) (omega (arith, down.1))
    ∙ sym (ap (at y) here))))
    ∙ (sym (map-append (at y) (range_with_len 0 (w * upper)) (range_with_len (0 + w * upper) (w * rows)))
    ∙ ap (map (at y)) (range_cut 0 (w * upper) (w * rows) ∙ ap (range_with_len 0) all))
