-- The hits in a region are those in a box round the triangle.
use Rattle.std.proofs.Common.{◌≡◌, ℕ, zero, suc, ◌+◌, ◌-◌, ◌*◌, ◌<◌, ◌≤◌, ℤ, List, [], ◌++◌, arith, ap, ap₂, refl, sym, ◌∙◌, subst, append-nil, ◌⊎◌, inl, inr, mul_comm, min, IsPermutation}
use Rattle.std.specs.List.{filter_map, range_with_len, cons_option}
use Rattle.std.proofs.lemmas.List.Elements.{filter_map-append}
use Rattle.std.proofs.lemmas.Nat.{div-mul-add, mod-mul-add}
use Rattle.std.proofs.lemmas.Bool.{cases_lt}
use Rattle.abuf_raster.specs.declared.region.Hit.{Hit}
use Rattle.abuf_raster.specs.Region.{Region}
use Rattle.abuf_raster.specs.Triangle.{Triangle}
use Rattle.abuf_raster.specs.Coverage.{mask}
use Rattle.abuf_raster.specs.Hits.{hit_at, hits}
use Rattle.abuf_raster.specs.Walk.{hit_of, pixel_hit, row_hits, block_hits, left_hits, band_hits, bands_hits}
use Rattle.abuf_raster.proofs.Blocks.{range_cut, block_cut, row_none, block_none}
use Rattle.abuf_raster.proofs.Pieces.{row_cut, bands_step, bands_all}
use Rattle.std.proofs.lemmas.List.Sorted.{IsPermutation-refl}

module _ (t : Triangle) (n : ℕ) (os : List (ℤ × ℤ)) (r : Region) (some : 0 < r.w) where
  -- the hit at a place is that of its pixel
  place_hit : (j i : ℕ) → i < r.w → hit_at t n os r (j * r.w + i) ≡ pixel_hit t n os (r.y0 + j) (r.x0 + i)
  place_hit j i h = ap₂ (λ (a b : ℕ). hit_of n (r.x0 + a) (r.y0 + b) (mask t os (r.x0 + a) (r.y0 + b))) (mod-mul-add j r.w i h) (div-mul-add j r.w i h)

  -- The hits at places within a row are those of its pixels.
  row_places : (j i c : ℕ) → i + c ≤ r.w → filter_map (hit_at t n os r) (range_with_len (j * r.w + i) c) ≡ row_hits t n os (r.x0 + i) c (r.y0 + j)
  row_places j i zero h = refl
  row_places j i (suc c) h =
      let e : j * r.w + i + 1 ≡ j * r.w + (i + 1) = omega arith in
      let s : r.x0 + i + 1 ≡ r.x0 + (i + 1) = omega arith in
      ap₂ cons_option (place_hit j i (omega arith))
      (ap (λ (a : ℕ). filter_map (hit_at t n os r) (range_with_len a c)) e ∙ (row_places j (i + 1) c (omega arith) ∙ ap (λ (a : ℕ). row_hits t n os a c (r.y0 + j)) (sym s)))

  -- And those at the places of whole rows.
  rows_places : (h j : ℕ) → filter_map (hit_at t n os r) (range_with_len (j * r.w) (h * r.w)) ≡ block_hits t n os r.x0 r.w (r.y0 + j) h
  rows_places zero j = let z : zero * r.w ≡ 0 = omega arith in ap (λ (c : ℕ). filter_map (hit_at t n os r) (range_with_len (j * r.w) c)) z
  rows_places (suc h) j =
      let c : suc h * r.w ≡ r.w + h * r.w = omega arith in
      let first = row_places j 0 r.w (omega arith) in
      let a : j * r.w ≡ j * r.w + 0 = omega arith in
      let x : r.x0 + 0 ≡ r.x0 = omega arith in
      let b : j * r.w + r.w ≡ suc j * r.w = omega arith in
      let y : r.y0 + suc j ≡ r.y0 + j + 1 = omega arith in
      ap (λ (c : ℕ). filter_map (hit_at t n os r) (range_with_len (j * r.w) c)) c
      ∙ (ap (filter_map (hit_at t n os r)) (sym (range_cut (j * r.w) r.w (h * r.w)))
      ∙ (filter_map-append (hit_at t n os r) (range_with_len (j * r.w) r.w) (range_with_len (j * r.w + r.w) (h * r.w))
      ∙ ap₂ (λ (xs ys : List Hit). xs ++ ys)
      (ap (λ (k : ℕ). filter_map (hit_at t n os r) (range_with_len k r.w)) a ∙ (first ∙ ap (λ (k : ℕ). row_hits t n os k r.w (r.y0 + j)) x))
      (ap (λ (k : ℕ). filter_map (hit_at t n os r) (range_with_len k (h * r.w))) b ∙ (rows_places h (suc j) ∙ ap (λ (k : ℕ). block_hits t n os r.x0 r.w k h) y))))

  -- The hits of a region are those of its block of pixels.
  pub hits_rows : hits t n os r ≡ block_hits t n os r.x0 r.w r.y0 r.h
  hits_rows =
      let c : r.w * r.h ≡ r.h * r.w = mul_comm r.w r.h in
      let z : 0 ≡ 0 * r.w = omega arith in
      let y : r.y0 + 0 ≡ r.y0 = omega arith in
      ap₂ (λ (a k : ℕ). filter_map (hit_at t n os r) (range_with_len a k)) z c ∙ (rows_places r.h 0 ∙ ap (λ (k : ℕ). block_hits t n os r.x0 r.w k r.h) y)

module _ (t : Triangle) (n : ℕ) (os : List (ℤ × ℤ)) (x w a b : ℕ) (low : x ≤ a) (order : a ≤ b) (high : b ≤ x + w) where
  -- a row, without what has no hits
  row_within : (y : ℕ) → ((i : ℕ) → x ≤ i → i < a → mask t os i y ≡ 0) → ((i : ℕ) → b ≤ i → i < x + w → mask t os i y ≡ 0) → row_hits t n os x w y ≡ row_hits t n os a (b - a) y
  row_within y before behind =
      let e : w ≡ a - x + (b - a + (x + w - b)) = omega arith in
      let p : x + (a - x) ≡ a = omega arith in
      let q : a + (b - a) ≡ b = omega arith in
      let first = row_none t n os y x (a - x) (λ i l g. before i l (omega arith)) in
      let last = row_none t n os y b (x + w - b) (λ i l g. behind i l (omega arith)) in
      ap (λ (k : ℕ). row_hits t n os x k y) e
      ∙ (sym (row_cut t n os x (a - x) (b - a + (x + w - b)) y)
      ∙ (ap₂ (λ (xs ys : List Hit). xs ++ ys) first
      (ap (λ (k : ℕ). row_hits t n os k (b - a + (x + w - b)) y) p
      ∙ (sym (row_cut t n os a (b - a) (x + w - b) y) ∙ (ap (λ (xs : List Hit). row_hits t n os a (b - a) y ++ xs) (ap (λ (k : ℕ). row_hits t n os k (x + w - b) y) q ∙ last) ∙ append-nil (row_hits t n os a (b - a) y))))))

  -- Rows, without what has no hits.
  rows_within : (y h : ℕ) → ((i j : ℕ) → x ≤ i → i < a → y ≤ j → j < y + h → mask t os i j ≡ 0) → ((i j : ℕ) → b ≤ i → i < x + w → y ≤ j → j < y + h → mask t os i j ≡ 0) → block_hits t n os x w y h ≡ block_hits t n os a (b - a) y h
  rows_within y zero before behind = refl
  rows_within y (suc h) before behind =
      ap₂ (λ (xs ys : List Hit). xs ++ ys) (row_within y (λ i l g. before i y l g (omega arith) (omega arith)) (λ i l g. behind i y l g (omega arith) (omega arith)))
      (rows_within (y + 1) h (λ i j l g p q. before i j l g (omega arith) (omega arith)) (λ i j l g p q. behind i j l g (omega arith) (omega arith)))

  -- a block, without what has no hits
  pub block_within : (y h c d : ℕ) → y ≤ c → c ≤ d → d ≤ y + h
      → ((i j : ℕ) → x ≤ i → i < a → y ≤ j → j < y + h → mask t os i j ≡ 0)
      → ((i j : ℕ) → b ≤ i → i < x + w → y ≤ j → j < y + h → mask t os i j ≡ 0)
      → ((i j : ℕ) → x ≤ i → i < x + w → y ≤ j → j < c → mask t os i j ≡ 0)
      → ((i j : ℕ) → x ≤ i → i < x + w → d ≤ j → j < y + h → mask t os i j ≡ 0)
      → block_hits t n os x w y h ≡ block_hits t n os a (b - a) c (d - c)
  block_within y h c d lc cd dh left right above under =
      let e : h ≡ c - y + (d - c + (y + h - d)) = omega arith in
      let p : y + (c - y) ≡ c = omega arith in
      let q : c + (d - c) ≡ d = omega arith in
      let first = block_none t n os x w y (c - y) (λ i j l g m k. above i j l g m (omega arith)) in
      let last = block_none t n os x w d (y + h - d) (λ i j l g m k. under i j l g m (omega arith)) in
      let middle = rows_within c (d - c) (λ i j l g m k. left i j l g (omega arith) (omega arith)) (λ i j l g m k. right i j l g (omega arith) (omega arith)) in
      ap (λ (k : ℕ). block_hits t n os x w y k) e
      ∙ (block_cut t n os x w y (c - y) (d - c + (y + h - d))
      ∙ (ap₂ (λ (xs ys : List Hit). xs ++ ys) first
      (ap (λ (k : ℕ). block_hits t n os x w k (d - c + (y + h - d))) p
      ∙ (block_cut t n os x w c (d - c) (y + h - d) ∙ (ap₂ (λ (xs ys : List Hit). xs ++ ys) middle (ap (λ (k : ℕ). block_hits t n os x w k (y + h - d)) q ∙ last) ∙ append-nil (block_hits t n os a (b - a) c (d - c)))))))

-- ---- the tiles of a box

module _ (t : Triangle) (n : ℕ) (os : List (ℤ × ℤ)) (r : Region) (some : 0 < r.w) (a b c d : ℕ) (la : r.x0 ≤ a) (hb : b ≤ r.x0 + r.w) (lc : r.y0 ≤ c) (hd : d ≤ r.y0 + r.h)
    (left : (i j : ℕ) → r.x0 ≤ i → i < a → mask t os i j ≡ 0)
    (right : (i j : ℕ) → b ≤ i → i < r.x0 + r.w → mask t os i j ≡ 0)
    (above : (i j : ℕ) → r.y0 ≤ j → j < c → mask t os i j ≡ 0)
    (under : (i j : ℕ) → d ≤ j → j < r.y0 + r.h → mask t os i j ≡ 0) where
  -- the hits in the tiles of the box are all
  pub box_hits : a ≤ b → c ≤ d → IsPermutation (left_hits t n os a a b c d) (hits t n os r)
  box_hits ab cd =
      let s : d - (c + 8) ≡ d - c - 8 = omega arith in
      let e : left_hits t n os a a b c d ≡ bands_hits t n os a (b - a) c (d - c) =
      ap (λ (k : ℕ). band_hits t n os a (b - a) c (min 8 (d - c)) ++ bands_hits t n os a (b - a) (c + 8) k) s ∙ sym (bands_step t n os a (b - a) c (d - c)) in
      let f : block_hits t n os a (b - a) c (d - c) ≡ hits t n os r =
      sym (hits_rows t n os r some ∙ block_within t n os r.x0 r.w a b la ab hb r.y0 r.h c d lc cd hd (λ i j l g _ _. left i j l g) (λ i j l g _ _. right i j l g) (λ i j _ _ l g. above i j l g) (λ i j _ _ l g. under i j l g)) in
      subst (λ (xs : List Hit). IsPermutation xs (hits t n os r)) (sym e) (subst (λ (xs : List Hit). IsPermutation (bands_hits t n os a (b - a) c (d - c)) xs) f (bands_all t n os a (b - a) c (d - c)))

  -- an empty box has none
  pub no_hits : (b ≤ a) ⊎ (d ≤ c) → hits t n os r ≡ []
  no_hits h = hits_rows t n os r some ∙ block_none t n os r.x0 r.w r.y0 r.h (λ i j l g m k. none h i j l g m k) where
    none : (b ≤ a) ⊎ (d ≤ c) → (i j : ℕ) → r.x0 ≤ i → i < r.x0 + r.w → r.y0 ≤ j → j < r.y0 + r.h → mask t os i j ≡ 0
    none (inl e) i j l g m k = elim (cases_lt i a) as (λ _. mask t os i j ≡ 0) [ inl f ↦ left i j l f | inr f ↦ right i j (omega arith) g ]
    none (inr e) i j l g m k = elim (cases_lt j c) as (λ _. mask t os i j ≡ 0) [ inl f ↦ above i j m f | inr f ↦ under i j (omega arith) k ]

-- Two empty lists are permutations of each other.
pub permutation_of_none : (xs ys : List Hit) → xs ≡ [] → ys ≡ [] → IsPermutation xs ys
permutation_of_none xs ys e f = subst (λ (zs : List Hit). IsPermutation zs ys) (sym e) (subst (λ (zs : List Hit). IsPermutation [] zs) (sym f) (IsPermutation-refl []))
