-- Tiles: a length in pieces of 8.
use Rattle.std.proofs.Common.{◌≡◌, ℕ, zero, suc, ◌+◌, ◌-◌, ◌*◌, ◌<◌, ◌≤◌, min, ℤ, List, [], ◌∷◌, ◌++◌, arith, ap, ap₂, refl, sym, ◌∙◌, subst, append-nil, append_assoc, IsPermutation, inl, inr}
use Rattle.std.proofs.lemmas.Bool.{cases_lt}
use Rattle.std.specs.List.{filter_map, flat_map, range_with_len}
use Rattle.std.proofs.lemmas.List.Elements.{filter_map-append}
use Rattle.std.proofs.lemmas.List.Sorted.{IsPermutation-refl, IsPermutation-append, IsPermutation-append_comm, IsPermutation-append_left, IsPermutation-append_right, IsPermutation-trans}
use Rattle.abuf_raster.specs.declared.region.Hit.{Hit}
use Rattle.abuf_raster.specs.Triangle.{Triangle}
use Rattle.abuf_raster.proofs.Blocks.{range_cut, block_cut}
use Rattle.abuf_raster.specs.Walk.{pixel_hit, row_hits, block_hits, pieces, pieces_in, band_hits, bands_hits, left_hits}

-- ---- the number of pieces

-- A length has one piece more than what is 8 shorter.
pieces_in_more : (n : ℕ) → 0 < n → pieces_in n ≡ suc (pieces_in (n - 8))
pieces_in_more n h = omega arith

-- The first piece, and the others.
pub pieces_step : (f : ℕ → ℕ → List Hit) (p n : ℕ) → 0 < n → pieces f (pieces_in n) p n ≡ f p (min 8 n) ++ pieces f (pieces_in (n - 8)) (p + 8) (n - 8)
pieces_step f p n h = ap (λ (c : ℕ). pieces f c p n) (pieces_in_more n h)

-- No length has nothing.
pieces_end : (f : ℕ → ℕ → List Hit) (p n : ℕ) → n ≡ 0 → pieces f (pieces_in n) p n ≡ []
pieces_end f p n e = let z : pieces_in n ≡ 0 = omega arith in ap (λ (c : ℕ). pieces f c p n) z

-- ---- a walk through the tiles

module _ (t : Triangle) (n : ℕ) (os : List (ℤ × ℤ)) where
  -- A band without rows has no hits.
  band_none : (count x w y : ℕ) → pieces (λ p m. block_hits t n os p m y 0) count x w ≡ []
  band_none zero x w y = refl
  band_none (suc count) x w y = band_none count (x + 8) (w - 8) y

  -- the next band, where there may be none
  pub bands_step : (x w y h : ℕ) → bands_hits t n os x w y h ≡ band_hits t n os x w y (min 8 h) ++ bands_hits t n os x w (y + 8) (h - 8)
  bands_step x w y zero =
      let z : min 8 0 ≡ 0 = omega arith in
      let s : 0 - 8 ≡ 0 = omega arith in
      pieces_end (λ p m. band_hits t n os x w p m) y 0 refl
      ∙ sym (ap₂ (λ (xs ys : List Hit). xs ++ ys) (ap (λ (m : ℕ). band_hits t n os x w y m) z ∙ band_none (pieces_in w) x w y) (pieces_end (λ p m. band_hits t n os x w p m) (y + 8) (0 - 8) s))
  bands_step x w y (suc h) = pieces_step (λ p m. band_hits t n os x w p m) y (suc h) (omega arith)

  -- one more tile to the right
  pub left_right : (first x end_x y end_y : ℕ) → 8 < end_x - x
      → block_hits t n os x (min 8 (end_x - x)) y (min 8 (end_y - y)) ++ left_hits t n os first (x + 8) end_x y end_y ≡ left_hits t n os first x end_x y end_y
  left_right first x end_x y end_y h =
      let b : List Hit = block_hits t n os x (min 8 (end_x - x)) y (min 8 (end_y - y)) in
      let bands : List Hit = bands_hits t n os first (end_x - first) (y + 8) (end_y - (y + 8)) in
      let s : end_x - (x + 8) ≡ end_x - x - 8 = omega arith in
      let e = pieces_step (λ p m. block_hits t n os p m y (min 8 (end_y - y))) x (end_x - x) (omega arith) in
      sym (append_assoc b (band_hits t n os (x + 8) (end_x - (x + 8)) y (min 8 (end_y - y))) bands)
      ∙ ap (λ (xs : List Hit). xs ++ bands) (ap (λ (m : ℕ). b ++ band_hits t n os (x + 8) m y (min 8 (end_y - y))) s ∙ sym e)

  -- the last tile of a band
  pub left_down : (first x end_x y end_y : ℕ) → x < end_x → end_x - x ≤ 8
      → block_hits t n os x (min 8 (end_x - x)) y (min 8 (end_y - y)) ++ left_hits t n os first first end_x (y + 8) end_y ≡ left_hits t n os first x end_x y end_y
  left_down first x end_x y end_y some h =
      let b : List Hit = block_hits t n os x (min 8 (end_x - x)) y (min 8 (end_y - y)) in
      let s : end_y - (y + 8 + 8) ≡ end_y - (y + 8) - 8 = omega arith in
      let e = pieces_step (λ p m. block_hits t n os p m y (min 8 (end_y - y))) x (end_x - x) (omega arith) in
      let z = pieces_end (λ p m. block_hits t n os p m y (min 8 (end_y - y))) (x + 8) (end_x - x - 8) (omega arith) in
      let one : band_hits t n os x (end_x - x) y (min 8 (end_y - y)) ≡ b = e ∙ (ap (λ (xs : List Hit). b ++ xs) z ∙ append-nil b) in
      let next = bands_step first (end_x - first) (y + 8) (end_y - (y + 8)) in
      ap₂ (λ (xs ys : List Hit). xs ++ ys) (sym one)
      (ap (λ (m : ℕ). band_hits t n os first (end_x - first) (y + 8) (min 8 (end_y - (y + 8))) ++ bands_hits t n os first (end_x - first) (y + 8 + 8) m) s ∙ sym next)

  -- all tiles are behind
  pub left_none : (first x end_x y end_y : ℕ) → end_y ≤ y → left_hits t n os first x end_x y end_y ≡ []
  left_none first x end_x y end_y h =
      let z : min 8 (end_y - y) ≡ 0 = omega arith in
      let s : end_y - (y + 8) ≡ 0 = omega arith in
      ap₂ (λ (xs ys : List Hit). xs ++ ys) (ap (λ (m : ℕ). band_hits t n os x (end_x - x) y m) z ∙ band_none (pieces_in (end_x - x)) x (end_x - x) y) (pieces_end (λ p m. band_hits t n os first (end_x - first) p m) (y + 8) (end_y - (y + 8)) s)

-- ---- the tiles are the block

-- pieces of what may be cut anywhere are the whole, in another order
pieces_all : (f : ℕ → ℕ → List Hit) → ((p : ℕ) → f p 0 ≡ []) → ((p m n : ℕ) → IsPermutation (f p m ++ f (p + m) n) (f p (m + n))) → (count p n : ℕ) → n ≤ 8 * count → IsPermutation (pieces f count p n) (f p n)
pieces_all f none cut zero p n h = let z : n ≡ 0 = omega arith in subst (λ (xs : List Hit). IsPermutation [] xs) (sym (ap (f p) z ∙ none p)) (IsPermutation-refl [])
pieces_all f none cut (suc count) p n h = go (pieces_all f none cut count (p + 8) (n - 8) (omega arith)) where
  -- a short last piece has nothing behind it
  rest : (m : ℕ) → m ≡ min 8 n → f (p + m) (n - 8) ≡ f (p + 8) (n - 8)
  rest m e = elim (cases_lt n 8) as (λ _. f (p + m) (n - 8) ≡ f (p + 8) (n - 8)) [
    | inl h ↦ (let z : n - 8 ≡ 0 = omega arith in ap (f (p + m)) z ∙ (none (p + m) ∙ sym (ap (f (p + 8)) z ∙ none (p + 8))))
    | inr h ↦ (let s : p + m ≡ p + 8 = omega arith in ap (λ (q : ℕ). f q (n - 8)) s)
  ]

  go : IsPermutation (pieces f count (p + 8) (n - 8)) (f (p + 8) (n - 8)) → IsPermutation (f p (min 8 n) ++ pieces f count (p + 8) (n - 8)) (f p n)
  go k =
      let s : min 8 n + (n - 8) ≡ n = omega arith in
      IsPermutation-trans _ (f p (min 8 n) ++ f (p + 8) (n - 8)) _ (IsPermutation-append_right (f p (min 8 n)) _ _ k)
      (subst (λ (xs : List Hit). IsPermutation (f p (min 8 n) ++ xs) (f p n)) (rest (min 8 n) refl) (subst (λ (m : ℕ). IsPermutation (f p (min 8 n) ++ f (p + min 8 n) (n - 8)) (f p m)) s (cut p (min 8 n) (n - 8))))

-- two lists for each of some things, one after the other
both_for_each : (f g : ℕ → List Hit) (ys : List ℕ) → IsPermutation (flat_map f ys ++ flat_map g ys) (flat_map (λ y. f y ++ g y) ys)
both_for_each f g [] = IsPermutation-refl []
both_for_each f g (y ∷ ys) = go (both_for_each f g ys) where
  go : IsPermutation (flat_map f ys ++ flat_map g ys) (flat_map (λ y. f y ++ g y) ys) → IsPermutation ((f y ++ flat_map f ys) ++ (g y ++ flat_map g ys)) ((f y ++ g y) ++ flat_map (λ y. f y ++ g y) ys)
  go k =
      let fs = flat_map f ys in
      let gs = flat_map g ys in
      let swap = IsPermutation-append_left gs (fs ++ g y) (g y ++ fs) (IsPermutation-append_comm fs (g y)) in
      let a : (f y ++ fs) ++ (g y ++ gs) ≡ f y ++ ((fs ++ g y) ++ gs) = append_assoc (f y) fs (g y ++ gs) ∙ ap (λ (xs : List Hit). f y ++ xs) (sym (append_assoc fs (g y) gs)) in
      let b : f y ++ ((g y ++ fs) ++ gs) ≡ (f y ++ g y) ++ (fs ++ gs) = ap (λ (xs : List Hit). f y ++ xs) (append_assoc (g y) fs gs) ∙ sym (append_assoc (f y) (g y) (fs ++ gs)) in
      subst (λ (xs : List Hit). IsPermutation xs ((f y ++ g y) ++ flat_map (λ y. f y ++ g y) ys)) (sym a)
      (IsPermutation-trans _ (f y ++ ((g y ++ fs) ++ gs)) _ (IsPermutation-append_right (f y) _ _ swap)
      (subst (λ (xs : List Hit). IsPermutation xs ((f y ++ g y) ++ flat_map (λ y. f y ++ g y) ys)) (sym b) (IsPermutation-append_right (f y ++ g y) _ _ k)))

module _ (t : Triangle) (n : ℕ) (os : List (ℤ × ℤ)) where
  -- A row is two rows, one beside the other.
  pub row_cut : (x m k y : ℕ) → row_hits t n os x m y ++ row_hits t n os (x + m) k y ≡ row_hits t n os x (m + k) y
  row_cut x m k y = sym (filter_map-append (pixel_hit t n os y) (range_with_len x m) (range_with_len (x + m) k)) ∙ ap (filter_map (pixel_hit t n os y)) (range_cut x m k)

  -- Rows without pixels have no hits.
  rows_none : (x : ℕ) (ys : List ℕ) → flat_map (row_hits t n os x 0) ys ≡ []
  rows_none x [] = refl
  rows_none x (y ∷ ys) = rows_none x ys

  -- The tiles of a band have the hits of its block.
  pub band_all : (x w y h : ℕ) → IsPermutation (band_hits t n os x w y h) (block_hits t n os x w y h)
  band_all x w y h = pieces_all (λ p m. block_hits t n os p m y h) (λ p. rows_none p (range_with_len y h))
      (λ p m k. subst (λ (f : ℕ → List Hit). IsPermutation (block_hits t n os p m y h ++ block_hits t n os (p + m) k y h) (flat_map f (range_with_len y h))) (λ i y. row_cut p m k y i) (both_for_each (row_hits t n os p m) (row_hits t n os (p + m) k) (range_with_len y h)))
      (pieces_in w) x w (omega arith)

  -- And the tiles of all bands.
  pub bands_all : (x w y h : ℕ) → IsPermutation (bands_hits t n os x w y h) (block_hits t n os x w y h)
  bands_all x w y h =
      IsPermutation-trans _ _ _ (each (pieces_in h) y h)
      (pieces_all (λ p m. block_hits t n os x w p m) (λ p. refl)
      (λ p m k. subst (λ (xs : List Hit). IsPermutation xs (block_hits t n os x w p (m + k))) (block_cut t n os x w p m k) (IsPermutation-refl _))
      (pieces_in h) y h (omega arith)) where
        each : (count p m : ℕ) → IsPermutation (pieces (λ p m. band_hits t n os x w p m) count p m) (pieces (λ p m. block_hits t n os x w p m) count p m)
        each zero p m = IsPermutation-refl []
        each (suc count) p m = IsPermutation-append _ _ _ _ (band_all x w p (min 8 m)) (each count (p + 8) (m - 8))
