-- A pixel beside a triangle of either winding isn't covered.
use Rattle.std.proofs.Common.{◌≡◌, ℕ, ◌*◌, ◌<◌, ◌*ℤ◌, ◌<ℤ◌, neg_ℤ, arith, Bool, true, false, ◌&&◌, ℤ, pos, List, length, slice_index_or, ap, refl, sym, ◌∙◌}
use Rattle.abuf_raster.specs.declared.point.Point.{Point}
use Rattle.abuf_raster.specs.declared.pattern.Pattern.{Pattern}
use Rattle.abuf_raster.specs.Triangle.{Triangle, has_area, positive_order}
use Rattle.abuf_raster.specs.Samples.{sample_position, offsets_of, reach_of}
use Rattle.abuf_raster.specs.BoundingBox.{IsBefore, IsBehind}
use Rattle.abuf_raster.specs.Coverage.{mask, all_accept}
use Rattle.abuf_raster.proofs.Acceptance.{in_order, positive_area}
use Rattle.abuf_raster.proofs.Beside.{Weighs, weighs_x, weighs_y, weighs_back, beside, before_place, behind_place}
use Rattle.abuf_raster.proofs.Changes.{covers_positive, offset_near, sixteenth}
use Rattle.std.proofs.lemmas.Int.{ints}
use Rattle.abuf_raster.proofs.Blocks.{mask_uncovered}
use Rattle.abuf_raster.proofs.Turned.{mask_turned}

-- what is true of each corner is true of each in positive order
corners : (P : Point → Type 0) (t : Triangle) → P t.a → P t.b → P t.c → P (positive_order t).a × P (positive_order t).b × P (positive_order t).c
corners P t a b c = in_order (λ u. P u.a × P u.b × P u.c) t (a, c, b) (a, b, c)

-- a mask is 0 where it is in positive order
either : (t : Triangle) (os : List (ℤ × ℤ)) (i j : ℕ) → (has_area t ≡ true → mask (positive_order t) os i j ≡ 0) → mask t os i j ≡ 0
either t os i j h = go (has_area t) refl where
  go : (v : Bool) → v ≡ has_area t → mask t os i j ≡ 0
  go true e = sym (mask_turned t os i j (length os) (sym e)) ∙ h (sym e)
  go false e = mask_uncovered t os i j (length os) (λ k l. let s : Point = sample_position (slice_index_or os k (pos 0, pos 0)) i j in ap (λ (b : Bool). b && all_accept (positive_order t).a (positive_order t).b (positive_order t).c s) (sym e))

module _ (t : Triangle) (p : Pattern) (i j : ℕ) where
  -- Where each sample has less of a coordinate than each corner, the mask is 0.
  none_beside : (f : Point → ℤ) → Weighs f → (P : Point → Type 0) → ((q : Point) → P q → (k : ℕ) → k < length (offsets_of p) → f (sample_position (slice_index_or (offsets_of p) k (pos 0, pos 0)) i j) <ℤ f q)
      → P t.a → P t.b → P t.c → mask t (offsets_of p) i j ≡ 0
  none_beside f weighs P less a b c = either t (offsets_of p) i j (λ h.
      let u : Triangle = positive_order t in
      let n = corners P t a b c in
      mask_uncovered u (offsets_of p) i j (length (offsets_of p)) (λ k l.
      let s : Point = sample_position (slice_index_or (offsets_of p) k (pos 0, pos 0)) i j in
      covers_positive u s (positive_area t h) ∙ beside f weighs u s (positive_area t h) (less u.a n.0 k l) (less u.b n.1 k l) (less u.c n.2 k l)))

  -- A pixel before its corners, or behind them, in a row.
  pub none_left : IsBefore i (16 * reach_of p) t.a.x → IsBefore i (16 * reach_of p) t.b.x → IsBefore i (16 * reach_of p) t.c.x → mask t (offsets_of p) i j ≡ 0
  none_left = none_beside (λ q. q.x) weighs_x (λ q. IsBefore i (16 * reach_of p) q.x) (λ q h k l.
      let o : ℤ × ℤ = slice_index_or (offsets_of p) k (pos 0, pos 0) in
      before_place i (reach_of p) (pos 16 *ℤ o.0) q.x h (sixteenth o.0 (reach_of p) (offset_near p k l).0))

  -- The same, after its corners.
  pub none_right : IsBehind i (16 * reach_of p) t.a.x → IsBehind i (16 * reach_of p) t.b.x → IsBehind i (16 * reach_of p) t.c.x → mask t (offsets_of p) i j ≡ 0
  none_right = none_beside (λ q. neg_ℤ q.x) (weighs_back (λ q. q.x) weighs_x) (λ q. IsBehind i (16 * reach_of p) q.x) (λ q h k l.
      let o : ℤ × ℤ = slice_index_or (offsets_of p) k (pos 0, pos 0) in
      let n = behind_place i (reach_of p) (pos 16 *ℤ o.0) q.x h (sixteenth o.0 (reach_of p) (offset_near p k l).0) in
      omega (arith, ints, n))

  -- And in a column.
  pub none_above : IsBefore j (16 * reach_of p) t.a.y → IsBefore j (16 * reach_of p) t.b.y → IsBefore j (16 * reach_of p) t.c.y → mask t (offsets_of p) i j ≡ 0
  none_above = none_beside (λ q. q.y) weighs_y (λ q. IsBefore j (16 * reach_of p) q.y) (λ q h k l.
      let o : ℤ × ℤ = slice_index_or (offsets_of p) k (pos 0, pos 0) in
      before_place j (reach_of p) (pos 16 *ℤ o.1) q.y h (sixteenth o.1 (reach_of p) (offset_near p k l).1))

  -- The same, after them.
  pub none_under : IsBehind j (16 * reach_of p) t.a.y → IsBehind j (16 * reach_of p) t.b.y → IsBehind j (16 * reach_of p) t.c.y → mask t (offsets_of p) i j ≡ 0
  none_under = none_beside (λ q. neg_ℤ q.y) (weighs_back (λ q. q.y) weighs_y) (λ q. IsBehind j (16 * reach_of p) q.y) (λ q h k l.
      let o : ℤ × ℤ = slice_index_or (offsets_of p) k (pos 0, pos 0) in
      let n = behind_place j (reach_of p) (pos 16 *ℤ o.1) q.y h (sixteenth o.1 (reach_of p) (offset_near p k l).1) in
      omega (arith, ints, n))
