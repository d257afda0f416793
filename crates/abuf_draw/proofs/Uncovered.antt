-- A triangle that covers no sample of a region has no hits in it.
use Rattle.std.proofs.Common.{◌≡◌, ℕ, ◌*◌, ◌≤◌, ℤ, List, [], arith, ap, ◌∙◌, inl, inr}
use Rattle.std.specs.List.{filter_map, range_with_len}
use Rattle.std.proofs.lemmas.Bool.{cases_lt}
use Rattle.abuf_raster.specs.Region.{Region}
use Rattle.abuf_raster.specs.Triangle.{Triangle}
use Rattle.abuf_raster.specs.BoundingBox.{CoversNone}
use Rattle.abuf_raster.specs.Hits.{hits, hit_at}
use Rattle.abuf_raster.proofs.Blocks.{block_none}
use Rattle.abuf_raster.proofs.Boxes.{hits_rows}

module _ (t : Triangle) (n : ℕ) (os : List (ℤ × ℤ)) (r : Region) (none : CoversNone t os r) where
  -- A region without columns has no places.
  without_pixels : r.w ≤ 0 → hits t n os r ≡ []
  without_pixels empty =
      let no_columns : r.w ≡ 0 = omega arith in
      let product : r.w * r.h ≡ 0 * r.h = ap (λ (w : ℕ). w * r.h) no_columns in
      let no_places : r.w * r.h ≡ 0 = omega (arith, product) in
      ap (λ (count : ℕ). filter_map (hit_at t n os r) (range_with_len 0 count)) no_places

  -- No row of the region has hits.
  pub no_hits : hits t n os r ≡ []
  no_hits = elim (cases_lt 0 r.w) as (λ _. hits t n os r ≡ []) [
    | inl some ↦ hits_rows t n os r some ∙ block_none t n os r.x0 r.w r.y0 r.h none
    | inr empty ↦ without_pixels empty
  ]
