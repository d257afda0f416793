-- How many fragments regions of one width have that stand one on the other.
use Rattle.std.proofs.Common.{◌≡◌, ℕ, zero, suc, ◌+◌, ◌*◌, ◌/◌, ◌%◌, ◌<◌, ◌==◌, if◌then◌else◌, ℤ, Bool, true, false, List, [], ◌∷◌, ◌++◌, length, Some, None, refl, ap, ap₂, ◌∙◌, sym, length-append, arith}
use Rattle.std.specs.List.{filter_map, cons_option, range_with_len}
use Rattle.std.proofs.lemmas.List.{length-map}
use Rattle.std.proofs.lemmas.List.Elements.{filter_map-append}
use Rattle.abuf_raster.specs.declared.region.Hit.{Hit}
use Rattle.abuf_raster.specs.Coverage.{mask}
use Rattle.abuf_raster.specs.Hits.{hit_at, placed, fragments, all_fragments}
use Rattle.abuf_raster.specs.Region.{Region, rectangle}
use Rattle.abuf_raster.specs.Triangle.{Triangle}
use Rattle.abuf_raster.proofs.Blocks.{range_cut}
use Rattle.abuf_resolve.proofs.Stacked.{row_down}

module _ (x y w : ℕ) (some : 0 < w) (t : Triangle) (n : ℕ) (offsets : List (ℤ × ℤ)) where
  -- The hits at so many places of a region from this row on.
  abbrev hits_from : ℕ → ℕ → ℕ → List Hit
  hits_from top a count = filter_map (hit_at t n offsets (rectangle x top w 0)) (range_with_len a count)

  -- How many hits a place has, and the places after it.
  hits_more : (top a count : ℕ) → length (hits_from top a (suc count)) ≡ (if mask t offsets (x + a % w) (top + a / w) == 0 then 0 else 1) + length (hits_from top (a + 1) count)
  hits_more top a count =
      elim (mask t offsets (x + a % w) (top + a / w) == 0) as (λ (v : Bool).
      length (cons_option (if v then None else Some (record { x = x + a % w; y = top + a / w; fragment = record { prim = n; mask = mask t offsets (x + a % w) (top + a / w) } })) (hits_from top (a + 1) count))
      ≡ (if v then 0 else 1) + length (hits_from top (a + 1) count)) [ true ↦ omega arith | false ↦ omega arith ]

  -- The places of the lower region have as many as those so far down.
  lower : (upper a count : ℕ) → length (hits_from (y + upper) a count) ≡ length (hits_from y (upper * w + a) count)
  lower upper a zero = refl
  lower upper a (suc count) =
      let down = row_down upper w a some in
      let row : y + upper + a / w ≡ y + (upper * w + a) / w = omega (arith, down.1) in
      let next : upper * w + (a + 1) ≡ upper * w + a + 1 = omega arith in
      hits_more (y + upper) a count
      ∙ (ap₂ (λ (m k : ℕ). (if m == 0 then 0 else 1) + k) (ap₂ (λ (c d : ℕ). mask t offsets (x + c) d) (sym down.0) row)
      (lower upper (a + 1) count ∙ ap (λ (b : ℕ). length (hits_from y b count)) next)
      ∙ sym (hits_more y (upper * w + a) count))

  -- Both regions have the hits of the upper one and of the lower one.
  one_stacked : (upper rows : ℕ)
      → length (fragments t n offsets (rectangle x y w upper)) + length (fragments t n offsets (rectangle x (y + upper) w rows)) ≡ length (fragments t n offsets (rectangle x y w (upper + rows)))
  one_stacked upper rows =
      let from : upper * w + 0 ≡ 0 + w * upper = omega arith in
      let all : w * upper + w * rows ≡ w * (upper + rows) = omega arith in
      let cut : range_with_len 0 (w * upper) ++ range_with_len (0 + w * upper) (w * rows) ≡ range_with_len 0 (w * (upper + rows)) = range_cut 0 (w * upper) (w * rows) ∙ ap (range_with_len 0) all in
      let both : hits_from y 0 (w * upper) ++ hits_from y (0 + w * upper) (w * rows) ≡ hits_from y 0 (w * (upper + rows)) =
      sym (filter_map-append (hit_at t n offsets (rectangle x y w 0)) (range_with_len 0 (w * upper)) (range_with_len (0 + w * upper) (w * rows)))
      ∙ ap (filter_map (hit_at t n offsets (rectangle x y w 0))) cut in
      omega (
        arith,
        length-map (hits_from y 0 (w * upper)) (placed (rectangle x y w upper)),
        length-map (hits_from (y + upper) 0 (w * rows)) (placed (rectangle x (y + upper) w rows)),
        length-map (hits_from y 0 (w * (upper + rows))) (placed (rectangle x y w (upper + rows))),
        length-append (hits_from y 0 (w * upper)) (hits_from y (0 + w * upper) (w * rows)),
        ap (λ (hs : List Hit). length hs) both,
        lower upper 0 (w * rows) ∙ ap (λ (a : ℕ). length (hits_from y a (w * rows))) from,
      )

-- So it is for all triangles.
pub fragments_stacked : (x y w : ℕ) → 0 < w → (triangles : List Triangle) (n : ℕ) (offsets : List (ℤ × ℤ)) (upper rows : ℕ)
    → length (all_fragments triangles n offsets (rectangle x y w upper)) + length (all_fragments triangles n offsets (rectangle x (y + upper) w rows))
    ≡ length (all_fragments triangles n offsets (rectangle x y w (upper + rows)))
fragments_stacked x y w some [] n offsets upper rows = refl
fragments_stacked x y w some (t ∷ ts) n offsets upper rows =
    let both = λ (r : Region). length-append (fragments t n offsets r) (all_fragments ts (n + 1) offsets r) in
    omega (arith, one_stacked x y w some t n offsets upper rows, fragments_stacked x y w some ts (n + 1) offsets upper rows, both (rectangle x y w upper), both (rectangle x (y + upper) w rows), both (rectangle x y w (upper + rows)))
