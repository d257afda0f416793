-- The hits of a triangle in positive order, and of one without area.
use Rattle.std.proofs.Common.{◌≡◌, ℕ, zero, suc, ◌+◌, ◌*◌, ◌/◌, ◌%◌, ◌^◌, ◌<◌, Bool, true, false, ◌&&◌, if◌then◌else◌, ℤ, List, [], length, slice_index_or, pos, Option, ap, ap₂, refl, sym, ◌∙◌}
use Rattle.std.specs.List.{filter_map, range_with_len}
use Rattle.abuf_raster.specs.declared.region.Hit.{Hit}
use Rattle.abuf_raster.specs.declared.point.Point.{Point}
use Rattle.abuf_raster.specs.Region.{Region}
use Rattle.abuf_raster.specs.Triangle.{Triangle, has_area, positive_order}
use Rattle.abuf_raster.specs.Samples.{sample_position}
use Rattle.abuf_raster.specs.Coverage.{mask_below, covers_sample, all_accept}
use Rattle.abuf_raster.specs.declared.bounding_box.BoundingBox.{BoundingBox}
use Rattle.abuf_raster.specs.BoundingBox.{IsBoxOf}
use Rattle.abuf_raster.specs.Hits.{hit_at, hits}
use Rattle.abuf_raster.specs.Walk.{hit_of}
use Rattle.abuf_raster.proofs.Acceptance.{positive_area}
use Rattle.abuf_raster.proofs.Sides.{covers_is}
use Rattle.abuf_raster.proofs.Changes.{covers_positive}
use Rattle.abuf_raster.proofs.Blocks.{mask_uncovered, block_none}
use Rattle.abuf_raster.proofs.Boxes.{hits_rows}

-- A triangle in positive order covers the same samples.
covers_turned : (t : Triangle) (s : Point) → has_area t ≡ true → covers_sample (positive_order t) s ≡ covers_sample t s
covers_turned t s h = covers_positive (positive_order t) s (positive_area t h) ∙ sym (covers_is t s h)

-- And has the same masks.
pub mask_turned : (t : Triangle) (os : List (ℤ × ℤ)) (x y k : ℕ) → has_area t ≡ true → mask_below (positive_order t) os x y k ≡ mask_below t os x y k
mask_turned t os x y zero h = refl
mask_turned t os x y (suc k) h =
    ap₂ (λ (m : ℕ) (b : Bool). m + (if b then 2 ^ k else 0)) (mask_turned t os x y k h) (covers_turned t (sample_position (slice_index_or os k (pos 0, pos 0)) x y) h)

module _ (t : Triangle) (n : ℕ) (os : List (ℤ × ℤ)) (r : Region) where
  -- The same hit at each place.
  hit_turned : has_area t ≡ true → (place : ℕ) → hit_at (positive_order t) n os r place ≡ hit_at t n os r place
  hit_turned h place = ap (hit_of n (r.x0 + place % r.w) (r.y0 + place / r.w)) (mask_turned t os (r.x0 + place % r.w) (r.y0 + place / r.w) (length os) h)

  -- And the same hits.
  pub hits_turned : has_area t ≡ true → hits (positive_order t) n os r ≡ hits t n os r
  hits_turned h = ap (λ (f : ℕ → Option Hit). filter_map f (range_with_len 0 (r.w * r.h))) (λ i place. hit_turned h place i)

  -- A triangle without area has none.
  pub hits_of_none : 0 < r.w → has_area t ≡ false → hits t n os r ≡ []
  hits_of_none some h =
      hits_rows t n os r some
      ∙ block_none t n os r.x0 r.w r.y0 r.h (λ i j _ _ _ _. mask_uncovered t os i j (length os) (λ k l. let s : Point = sample_position (slice_index_or os k (pos 0, pos 0)) i j in ap (λ (b : Bool). b && all_accept (positive_order t).a (positive_order t).b (positive_order t).c s) h))

-- a box round a triangle is one round the triangle in positive order
pub box_turned : (t : Triangle) (os : List (ℤ × ℤ)) (r : Region) (b : BoundingBox) → has_area t ≡ true → IsBoxOf t os r b → IsBoxOf (positive_order t) os r b
box_turned t os r b h i = record {
  x_order = i.x_order;
  y_order = i.y_order;
  x_low = i.x_low;
  x_high = i.x_high;
  y_low = i.y_low;
  y_high = i.y_high;
  left = λ x y l g. mask_turned t os x y (length os) h ∙ i.left x y l g;
  right = λ x y l g. mask_turned t os x y (length os) h ∙ i.right x y l g;
  above = λ x y l g. mask_turned t os x y (length os) h ∙ i.above x y l g;
  under = λ x y l g. mask_turned t os x y (length os) h ∙ i.under x y l g;
}
