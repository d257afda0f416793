-- The hits of rows and blocks of pixels, and those of blocks that need no test.
use Rattle.std.proofs.Common.{◌≡◌, ℕ, zero, suc, ◌+◌, ◌-◌, ◌^◌, ◌<◌, ◌≤◌, Bool, false, if◌then◌else◌, ℤ, List, [], ◌∷◌, ◌++◌, map, arith, ap, ap₂, refl, sym, ◌∙◌, append-nil, Option, Some, None, ne_eqb}
use Rattle.std.specs.List.{filter_map, flat_map, range_with_len, cons_option}
use Rattle.std.proofs.lemmas.List.Elements.{filter_map-append}
use Rattle.std.proofs.lemmas.List.Concat.{flat_map-append}
use Rattle.std.proofs.lemmas.List.{map-append}
use Rattle.abuf_raster.specs.declared.region.Hit.{Hit}
use Rattle.abuf_raster.specs.Triangle.{Triangle}
use Rattle.abuf_raster.specs.Coverage.{covers, mask, mask_below}
use Rattle.abuf_raster.specs.Walk.{hit_of, pixel_hit, row_hits, block_hits, full_row, full_hits, found}

-- ---- one more

-- A range is two ranges, one after the other.
pub range_cut : (a m n : ℕ) → range_with_len a m ++ range_with_len (a + m) n ≡ range_with_len a (m + n)
range_cut a zero n = let e : a + 0 ≡ a = omega arith in let z : 0 + n ≡ n = omega arith in ap (λ (b : ℕ). range_with_len b n) e ∙ ap (range_with_len a) (sym z)
range_cut a (suc m) n =
    let e : a + suc m ≡ a + 1 + m = omega arith in
    let s : suc m + n ≡ suc (m + n) = omega arith in
    ap (λ (b : ℕ). a ∷ (range_with_len (a + 1) m ++ range_with_len b n)) e ∙ (ap (λ (xs : List ℕ). a ∷ xs) (range_cut (a + 1) m n) ∙ ap (range_with_len a) (sym s))

-- A range with one number more ends with it.
pub range_more : (a n : ℕ) → range_with_len a (n + 1) ≡ range_with_len a n ++ (a + n) ∷ []
range_more a n = sym (range_cut a n 1)

-- Of one item there is what is found of it.
one_found : (f : ℕ → Option Hit) (x : ℕ) → filter_map f (x ∷ []) ≡ found (f x)
one_found f x = elim (f x) as (λ (o : Option Hit). filter_map (λ _. o) (x ∷ []) ≡ found o) [ None ↦ refl | Some h ↦ refl ]

module _ (t : Triangle) (n : ℕ) (os : List (ℤ × ℤ)) where
  -- A row with one pixel more has the hit of that pixel last.
  pub row_more : (x c y : ℕ) → row_hits t n os x (c + 1) y ≡ row_hits t n os x c y ++ found (pixel_hit t n os y (x + c))
  row_more x c y =
      ap (filter_map (pixel_hit t n os y)) (range_more x c)
      ∙ (filter_map-append (pixel_hit t n os y) (range_with_len x c) ((x + c) ∷ []) ∙ ap (λ (hs : List Hit). row_hits t n os x c y ++ hs) (one_found (pixel_hit t n os y) (x + c)))

  -- A row is two rows, one behind the other.
  pub row_cut : (x m k y : ℕ) → row_hits t n os x (m + k) y ≡ row_hits t n os x m y ++ row_hits t n os (x + m) k y
  row_cut x m k y = ap (filter_map (pixel_hit t n os y)) (sym (range_cut x m k)) ∙ filter_map-append (pixel_hit t n os y) (range_with_len x m) (range_with_len (x + m) k)

  -- A block is two blocks, one under the other.
  pub block_cut : (x w y m k : ℕ) → block_hits t n os x w y (m + k) ≡ block_hits t n os x w y m ++ block_hits t n os x w (y + m) k
  block_cut x w y m k = ap (flat_map (row_hits t n os x w)) (sym (range_cut y m k)) ∙ flat_map-append (row_hits t n os x w) (range_with_len y m) (range_with_len (y + m) k)

  -- A block with one row more has the hits of that row last.
  pub block_more : (x w y c : ℕ) → block_hits t n os x w y (c + 1) ≡ block_hits t n os x w y c ++ row_hits t n os x w (y + c)
  block_more x w y c = block_cut x w y c 1 ∙ ap (λ (hs : List Hit). block_hits t n os x w y c ++ hs) (append-nil (row_hits t n os x w (y + c)))

-- The same of a row whose pixels all have one mask.
pub full_row_more : (n m x c y : ℕ) → full_row n m x (c + 1) y ≡ full_row n m x c y ++ (record { x = x + c; y = y; fragment = record { prim = n; mask = m } }) ∷ []
full_row_more n m x c y =
    let f : ℕ → Hit = λ (i : ℕ). record { x = i; y = y; fragment = record { prim = n; mask = m } } in
    ap (map f) (range_more x c) ∙ map-append f (range_with_len x c) ((x + c) ∷ [])

-- And of a block.
pub full_more : (n m x w y c : ℕ) → full_hits n m x w y (c + 1) ≡ full_hits n m x w y c ++ full_row n m x w (y + c)
full_more n m x w y c =
    ap (flat_map (full_row n m x w)) (range_more y c)
    ∙ (flat_map-append (full_row n m x w) (range_with_len y c) ((y + c) ∷ []) ∙ ap (λ (hs : List Hit). full_hits n m x w y c ++ hs) (append-nil (full_row n m x w (y + c))))

-- A mask that is not 0 is a hit.
pub hit_of_some : (n x y m : ℕ) → 0 < m → hit_of n x y m ≡ Some (record { x = x; y = y; fragment = record { prim = n; mask = m } })
hit_of_some n x y m h = rw (ne_eqb m 0 (λ e. omega arith)) refl

-- And a list of one hit.
pub hit_some : (n x y m : ℕ) → 0 < m → found (hit_of n x y m) ≡ (record { x = x; y = y; fragment = record { prim = n; mask = m } }) ∷ []
hit_some n x y m h = ap found (hit_of_some n x y m h)

-- ---- blocks whose pixels all have one mask

module _ (t : Triangle) (n : ℕ) (os : List (ℤ × ℤ)) (y : ℕ) where
  -- A row whose masks are all 0 has no hits.
  pub row_none : (x w : ℕ) → ((i : ℕ) → x ≤ i → i < x + w → mask t os i y ≡ 0) → row_hits t n os x w y ≡ []
  row_none x zero h = refl
  row_none x (suc w) h =
      let z : mask t os x y ≡ 0 = h x (omega arith) (omega arith) in
      rw z (row_none (x + 1) w (λ i l g. h i (omega arith) (omega arith)))

  -- A row whose pixels all have one mask.
  pub row_full : (m : ℕ) → 0 < m → (x w : ℕ) → ((i : ℕ) → x ≤ i → i < x + w → mask t os i y ≡ m) → full_row n m x w y ≡ row_hits t n os x w y
  row_full m some x zero h = refl
  row_full m some x (suc w) h =
      let z : mask t os x y ≡ m = h x (omega arith) (omega arith) in
      let e : pixel_hit t n os y x ≡ Some (record { x = x; y = y; fragment = record { prim = n; mask = m } }) = ap (hit_of n x y) z ∙ hit_of_some n x y m some in
      ap (λ (hs : List Hit). (record { x = x; y = y; fragment = record { prim = n; mask = m } }) ∷ hs) (row_full m some (x + 1) w (λ i l g. h i (omega arith) (omega arith)))
      ∙ ap (λ (o : Option Hit). cons_option o (row_hits t n os (x + 1) w y)) (sym e)

  -- A row has no hits behind those of its first pixels, where the masks of the others are all 0.
  pub row_ends : (x w k : ℕ) → k ≤ w → ((i : ℕ) → x + k ≤ i → i < x + w → mask t os i y ≡ 0) → row_hits t n os x k y ≡ row_hits t n os x w y
  row_ends x w k l h =
      let e : k + (w - k) ≡ w = omega arith in
      sym (append-nil (row_hits t n os x k y))
      ∙ (ap (λ (hs : List Hit). row_hits t n os x k y ++ hs) (sym (row_none (x + k) (w - k) (λ i p q. h i p (omega arith))))
      ∙ (sym (row_cut t n os x k (w - k) y) ∙ ap (λ (c : ℕ). row_hits t n os x c y) e))

module _ (t : Triangle) (n : ℕ) (os : List (ℤ × ℤ)) (x w : ℕ) where
  -- A block whose masks are all 0 has no hits.
  pub block_none : (y h : ℕ) → ((i j : ℕ) → x ≤ i → i < x + w → y ≤ j → j < y + h → mask t os i j ≡ 0) → block_hits t n os x w y h ≡ []
  block_none y zero f = refl
  block_none y (suc h) f = ap₂ (λ (xs ys : List Hit). xs ++ ys) (row_none t n os y x w (λ i l g. f i y l g (omega arith) (omega arith))) (block_none (y + 1) h (λ i j l g p q. f i j l g (omega arith) (omega arith)))

  -- A block whose pixels all have one mask.
  pub block_full : (m : ℕ) → 0 < m → (y h : ℕ) → ((i j : ℕ) → x ≤ i → i < x + w → y ≤ j → j < y + h → mask t os i j ≡ m) → full_hits n m x w y h ≡ block_hits t n os x w y h
  block_full m some y zero f = refl
  block_full m some y (suc h) f = ap₂ (λ (xs ys : List Hit). xs ++ ys) (row_full t n os y m some x w (λ i l g. f i y l g (omega arith) (omega arith))) (block_full m some (y + 1) h (λ i j l g p q. f i j l g (omega arith) (omega arith)))

-- ---- the masks of pixels whose samples are all alike

-- Where no sample is covered, the mask is 0.
pub mask_uncovered : (t : Triangle) (os : List (ℤ × ℤ)) (x y k : ℕ) → ((j : ℕ) → j < k → covers t os x y j ≡ false) → mask_below t os x y k ≡ 0
mask_uncovered t os x y zero h = refl
mask_uncovered t os x y (suc k) h = ap₂ (λ (m : ℕ) (b : Bool). m + (if b then 2 ^ k else 0)) (mask_uncovered t os x y k (λ j l. h j (omega arith))) (h k (omega arith))
