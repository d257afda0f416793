-- How the values of the three edges change from place to place, and what they say of a pixel's samples.
use Rattle.std.proofs.Common.{inl, inr, ◌≡◌, ℕ, zero, suc, ◌+◌, ◌-◌, ◌*◌, ◌^◌, ◌<◌, ◌≤◌, Bool, true, false, not, ◌&&◌, ◌||◌, if◌then◌else◌, ℤ, pos, negsuc, neg_ℤ, ◌+ℤ◌, ◌-ℤ◌, ◌*ℤ◌, ◌<ℤ◌, ◌≤ℤ◌, unsigned_abs, List, [], ◌∷◌, length, slice_index_or, arith, ap, ap₂, refl, sym, ◌∙◌, true≢false, pow-suc, pow_pos, lit≤, subst}
use Rattle.std.specs.Prelude.{int_lt}
use Rattle.std.specs.Ordering.{int_eq}
use Rattle.std.proofs.lemmas.Int.{ints}
use Rattle.abuf_raster.specs.declared.point.Point.{Point}
use Rattle.abuf_raster.specs.declared.pattern.Pattern.{Pattern}
use Rattle.abuf_raster.specs.declared.pattern.Pattern.TheVariants.{One, Two, Four, Eight, Sixteen}
use Rattle.abuf_raster.specs.Edge.{edge_function, is_left_edge, is_top_edge}
use Rattle.abuf_raster.specs.Triangle.{Triangle, IsWithin, AreWithin}
use Rattle.abuf_raster.specs.Samples.{sample_position, pixel_centre, offsets_of, reach_of}
use Rattle.abuf_raster.specs.Coverage.{mask, accepts, all_accept, covers, covers_sample, mask_below}
use Rattle.abuf_raster.specs.Values.{edge_value, edge_change, one_way, edge_farthest, Numbers, values_at, changes, farthest, plus_all, none_below, stays_below, AreUp, AreAtMost, IsRoomFor, sample_changes, at_sample, mask_of_values, mask_of_values_below}
use Rattle.abuf_raster.specs.declared.tile.Tile.{Tile}
use Rattle.abuf_raster.specs.Setup.{AreBetween, highest, lowest}
use Rattle.abuf_raster.specs.Walk.{IsTile, block_hits, full_hits}
use Rattle.abuf_raster.proofs.Blocks.{block_none, block_full}
use Rattle.std.proofs.lemmas.Nat.{mul-le}
use Rattle.std.proofs.lemmas.Bool.{cases_lt}
use Rattle.abuf_raster.proofs.Bounds.{abs-mul}
use Rattle.abuf_raster.proofs.Ring.{neg_mul}
use Rattle.abuf_raster.proofs.Linear.{E_from}
use Rattle.std.proofs.lemmas.Bool.{and_parts}
use Rattle.abuf_raster.proofs.Masks.{offsets_some}
use Rattle.abuf_raster.proofs.Rooms.{value_room, lt_true, lt_false, rising_pos, falling_pos, change_room}

-- ---- from place to place

-- The value of an edge at a place, from that at another by the change between them.
pub value_stepped : (a b s z : Point) (x y : ℤ) → z.x ≡ s.x +ℤ x → z.y ≡ s.y +ℤ y → edge_value a b s +ℤ edge_change a b x y ≡ edge_value a b z
value_stepped a b s z x y ex ey =
    let p : ℤ = if is_left_edge a b || is_top_edge a b then pos 0 else pos 1 in
    let dx : z.x -ℤ s.x ≡ x = omega (arith, ints) in
    let dy : z.y -ℤ s.y ≡ y = omega (arith, ints) in
    let f : edge_function a b z ≡ edge_function a b s +ℤ ((b.x -ℤ a.x) *ℤ y -ℤ (b.y -ℤ a.y) *ℤ x) = E_from a b s z ∙ ap₂ (λ (u v : ℤ). edge_function a b s +ℤ ((b.x -ℤ a.x) *ℤ v -ℤ (b.y -ℤ a.y) *ℤ u)) dx dy in
    let n : a.y -ℤ b.y ≡ neg_ℤ (b.y -ℤ a.y) = omega (arith, ints) in
    let g : (a.y -ℤ b.y) *ℤ x ≡ neg_ℤ ((b.y -ℤ a.y) *ℤ x) = ap (λ (u : ℤ). u *ℤ x) n ∙ neg_mul (b.y -ℤ a.y) x in
    moved (edge_function a b s) (edge_function a b z) ((b.x -ℤ a.x) *ℤ y) ((b.y -ℤ a.y) *ℤ x) ((a.y -ℤ b.y) *ℤ x) p f g where
      moved : (e h u v w p : ℤ) → h ≡ e +ℤ (u -ℤ v) → w ≡ neg_ℤ v → (e -ℤ p) +ℤ (u +ℤ w) ≡ h -ℤ p
      moved e h u v w p f g = omega (arith, ints)

-- The same of three edges.
pub values_stepped : (t : Triangle) (s z : Point) (x y : ℤ) → z.x ≡ s.x +ℤ x → z.y ≡ s.y +ℤ y → plus_all (values_at t s) (changes t x y) ≡ values_at t z
values_stepped t s z x y ex ey = λ i. record { ab = value_stepped t.a t.b s z x y ex ey i; bc = value_stepped t.b t.c s z x y ex ey i; ca = value_stepped t.c t.a s z x y ex ey i }

-- The values at a sample of a pixel, from those at its centre.
pub values_sample : (t : Triangle) (os : List (ℤ × ℤ)) (x y k : ℕ) → at_sample t os (values_at t (pixel_centre x y)) k ≡ values_at t (sample_position (slice_index_or os k (pos 0, pos 0)) x y)
values_sample t os x y k = let o : ℤ × ℤ = slice_index_or os k (pos 0, pos 0) in values_stepped t (pixel_centre x y) (sample_position o x y) (pos 16 *ℤ o.0) (pos 16 *ℤ o.1) refl refl

-- ---- what an edge accepts

-- The test of the top-left rule, as a sign of the value.
value_sign : (z : ℤ) (p : Bool) → (int_lt (pos 0) z || (int_eq z (pos 0) && p)) ≡ not (int_lt (z -ℤ (if p then pos 0 else pos 1)) (pos 0))
value_sign (pos zero) true = refl
value_sign (pos zero) false = refl
value_sign (pos (suc n)) true = ap (λ (b : Bool). b || (int_eq (pos (suc n)) (pos 0) && true)) (lt_true (pos 0) (pos (suc n)) (omega (arith, ints))) ∙ sym (ap not (lt_false (pos (suc n) -ℤ pos 0) (pos 0) (omega (arith, ints))))
value_sign (pos (suc n)) false = ap (λ (b : Bool). b || (int_eq (pos (suc n)) (pos 0) && false)) (lt_true (pos 0) (pos (suc n)) (omega (arith, ints))) ∙ sym (ap not (lt_false (pos (suc n) -ℤ pos 1) (pos 0) (omega (arith, ints))))
value_sign (negsuc n) true = sym (ap not (lt_true (negsuc n -ℤ pos 0) (pos 0) (omega (arith, ints))))
value_sign (negsuc n) false = sym (ap not (lt_true (negsuc n -ℤ pos 1) (pos 0) (omega (arith, ints))))

-- An edge accepts exactly where its value is not below 0.
pub accepts_value : (a b s : Point) → accepts a b s ≡ not (int_lt (edge_value a b s) (pos 0))
accepts_value a b s = value_sign (edge_function a b s) (is_left_edge a b || is_top_edge a b)

-- Three edges accept exactly where none of their values is below 0.
pub all_accept_values : (t : Triangle) (s : Point) → all_accept t.a t.b t.c s ≡ none_below (values_at t s)
all_accept_values t s = ap₂ (λ (u v : Bool). u && v) (ap₂ (λ (u v : Bool). u && v) (accepts_value t.a t.b s) (accepts_value t.b t.c s)) (accepts_value t.c t.a s)

-- what a triangle of positive area covers
pub covers_positive : (t : Triangle) (s : Point) → pos 0 <ℤ edge_function t.a t.b t.c → covers_sample t s ≡ all_accept t.a t.b t.c s
covers_positive t s h = go (int_lt (edge_function t.a t.b t.c) (pos 0)) (int_lt (pos 0) (edge_function t.a t.b t.c)) refl refl where
  go : (u v : Bool) → u ≡ int_lt (edge_function t.a t.b t.c) (pos 0) → v ≡ int_lt (pos 0) (edge_function t.a t.b t.c) → covers_sample t s ≡ all_accept t.a t.b t.c s
  go true v e f = absurd (omega (arith, ints))
  go false false e f = absurd (omega (arith, ints))
  go false true e f = rw (← e, ← f) refl

-- The mask of a pixel, from the values at its centre.
pub mask_values : (t : Triangle) (os : List (ℤ × ℤ)) (x y : ℕ) → pos 0 <ℤ edge_function t.a t.b t.c → (k : ℕ) → mask_of_values_below t os (values_at t (pixel_centre x y)) k ≡ mask_below t os x y k
mask_values t os x y h zero = refl
mask_values t os x y h (suc k) =
    let s : Point = sample_position (slice_index_or os k (pos 0, pos 0)) x y in
    let e : none_below (at_sample t os (values_at t (pixel_centre x y)) k) ≡ covers t os x y k = ap none_below (values_sample t os x y k) ∙ sym (covers_positive t s h ∙ all_accept_values t s) in
    ap₂ (λ (m : ℕ) (b : Bool). m + (if b then 2 ^ k else 0)) (mask_values t os x y h k) e

-- ---- offsets

-- each offset is at most m away, either way
abbrev AllNear : ℕ → List (ℤ × ℤ) → Type 0
AllNear m [] = Unit {0}
AllNear m (o ∷ os) = ((unsigned_abs o.0 ≤ m) × (unsigned_abs o.1 ≤ m)) × AllNear m os

-- So is each of them.
near_at : (m : ℕ) (os : List (ℤ × ℤ)) (k : ℕ) → AllNear m os → k < length os → (unsigned_abs (slice_index_or os k (pos 0, pos 0)).0 ≤ m) × (unsigned_abs (slice_index_or os k (pos 0, pos 0)).1 ≤ m)
near_at m [] k n h = absurd (omega arith)
near_at m (o ∷ os) zero n h = n.0
near_at m (o ∷ os) (suc k) n h = near_at m os k n.1 (omega arith)

-- The offsets of a pattern are within its reach.
all_near : (p : Pattern) → AllNear (reach_of p) (offsets_of p)
all_near One = ((lit≤ tt, lit≤ tt), tt)
all_near Two = ((lit≤ tt, lit≤ tt), ((lit≤ tt, lit≤ tt), tt))
all_near Four = ((lit≤ tt, lit≤ tt), ((lit≤ tt, lit≤ tt), ((lit≤ tt, lit≤ tt), ((lit≤ tt, lit≤ tt), tt))))
all_near Eight = ((lit≤ tt, lit≤ tt), ((lit≤ tt, lit≤ tt), ((lit≤ tt, lit≤ tt), ((lit≤ tt, lit≤ tt), ((lit≤ tt, lit≤ tt), ((lit≤ tt, lit≤ tt), ((lit≤ tt, lit≤ tt), ((lit≤ tt, lit≤ tt), tt))))))))
all_near Sixteen = ((lit≤ tt, lit≤ tt), ((lit≤ tt, lit≤ tt), ((lit≤ tt, lit≤ tt), ((lit≤ tt, lit≤ tt), ((lit≤ tt, lit≤ tt), ((lit≤ tt, lit≤ tt), ((lit≤ tt, lit≤ tt), ((lit≤ tt, lit≤ tt), ((lit≤ tt, lit≤ tt), ((lit≤ tt, lit≤ tt), ((lit≤ tt, lit≤ tt), ((lit≤ tt, lit≤ tt), ((lit≤ tt, lit≤ tt), ((lit≤ tt, lit≤ tt), ((lit≤ tt, lit≤ tt), ((lit≤ tt, lit≤ tt), tt))))))))))))))))

-- So is each of them.
pub offset_near : (p : Pattern) (k : ℕ) → k < length (offsets_of p) → (unsigned_abs (slice_index_or (offsets_of p) k (pos 0, pos 0)).0 ≤ reach_of p) × (unsigned_abs (slice_index_or (offsets_of p) k (pos 0, pos 0)).1 ≤ reach_of p)
offset_near p k h = near_at (reach_of p) (offsets_of p) k (all_near p) h

-- No reach is above half a pixel.
pub reach_small : (p : Pattern) → reach_of p ≤ 8
reach_small One = lit≤ tt
reach_small Two = lit≤ tt
reach_small Four = lit≤ tt
reach_small Eight = lit≤ tt
reach_small Sixteen = lit≤ tt

-- What is at least a number that is not below 0 is not below 0.
pub not_below : (x y : ℤ) → x ≤ℤ y → not (int_lt x (pos 0)) ≡ true → not (int_lt y (pos 0)) ≡ true
not_below x y h e = go (int_lt x (pos 0)) (int_lt y (pos 0)) refl refl where
  go : (u v : Bool) → u ≡ int_lt x (pos 0) → v ≡ int_lt y (pos 0) → not (int_lt y (pos 0)) ≡ true
  go u false f g = rw (← g) refl
  go true true f g = absurd (true≢false (sym e ∙ ap not (sym f)))
  go false true f g = absurd (omega (arith, ints))

-- Three tests pass where three stricter ones pass.
all_three : (u v w x y z : Bool) → (u ≡ true → x ≡ true) → (v ≡ true → y ≡ true) → (w ≡ true → z ≡ true) → (u && v && w) ≡ true → (x && y && z) ≡ true
all_three u v w x y z f g h e =
    let a = and_parts (u && v) w e in
    let b = and_parts u v a.0 in
    rw (f b.0, g b.1, h a.1) refl

-- Where none of the lesser is below 0, none of the greater is.
pub up_none_below : (m n : Numbers) → AreUp m n → none_below m ≡ true → none_below n ≡ true
up_none_below m n h e = all_three _ _ _ _ _ _ (not_below m.ab n.ab h.ab) (not_below m.bc n.bc h.bc) (not_below m.ca n.ca h.ca) e

-- What is not true is false.
pub not_true : (b : Bool) → (b ≡ true → ⊥) → b ≡ false
not_true true h = absurd (h refl)
not_true false h = refl

-- where some of the greater are below 0, so are some of the lesser
pub below_down : (m n : Numbers) → AreUp m n → none_below n ≡ false → none_below m ≡ false
below_down m n h e = not_true (none_below m) (λ k. true≢false (sym (up_none_below m n h k) ∙ e))

-- Sums keep the order: the greater put last.
pub plus_up : (k m n : Numbers) → AreUp m n → AreUp (plus_all k m) (plus_all k n)
plus_up k m n h = record { ab = omega (arith, ints, h.ab); bc = omega (arith, ints, h.bc); ca = omega (arith, ints, h.ca) }

-- And put first.
pub up_plus : (k m n : Numbers) → AreUp m n → AreUp (plus_all m k) (plus_all n k)
up_plus k m n h = record { ab = omega (arith, ints, h.ab); bc = omega (arith, ints, h.bc); ca = omega (arith, ints, h.ca) }

-- ---- the masks of pixels that need no test

-- The mask is 0 where no sample is accepted.
mask_none : (t : Triangle) (os : List (ℤ × ℤ)) (n : Numbers) (k : ℕ) → ((j : ℕ) → j < k → none_below (at_sample t os n j) ≡ false) → mask_of_values_below t os n k ≡ 0
mask_none t os n zero h = refl
mask_none t os n (suc k) h = ap₂ (λ (m : ℕ) (b : Bool). m + (if b then 2 ^ k else 0)) (mask_none t os n k (λ j l. h j (omega arith))) (h k (omega arith))

-- And full where all are.
mask_all : (t : Triangle) (os : List (ℤ × ℤ)) (n : Numbers) (k : ℕ) → ((j : ℕ) → j < k → none_below (at_sample t os n j) ≡ true) → mask_of_values_below t os n k ≡ 2 ^ k - 1
mask_all t os n zero h = refl
mask_all t os n (suc k) h =
    let e = ap₂ (λ (m : ℕ) (b : Bool). m + (if b then 2 ^ k else 0)) (mask_all t os n k (λ j l. h j (omega arith))) (h k (omega arith)) in
    e ∙ omega (arith, pow-suc 2 k, pow_pos k)

-- Sixteen times a number is within sixteen times its bound.
pub sixteenth : (z : ℤ) (m : ℕ) → unsigned_abs z ≤ m → unsigned_abs (pos 16 *ℤ z) ≤ 16 * m
sixteenth z m h = abs-mul (pos 16) z 16 m (lit≤ tt) h

-- a pixel with an edge that accepts none of its samples, and one whose samples all three accept
module _ (t : Triangle) (os : List (ℤ × ℤ)) (n m : Numbers) where
  -- The first: its mask is 0.
  pub mask_outside : ((k : ℕ) → k < length os → AreUp (sample_changes t os k) m) → none_below (plus_all n m) ≡ false → mask_of_values t os n ≡ 0
  mask_outside h e = mask_none t os n (length os) (λ j l. below_down (at_sample t os n j) (plus_all n m) (plus_up n (sample_changes t os j) m (h j l)) e)

  -- The second: its mask is full.
  pub mask_inside : ((k : ℕ) → k < length os → AreUp m (sample_changes t os k)) → none_below (plus_all n m) ≡ true → mask_of_values t os n ≡ 2 ^ length os - 1
  mask_inside h e = mask_all t os n (length os) (λ j l. up_none_below (plus_all n m) (at_sample t os n j) (plus_up n m (sample_changes t os j) (h j l)) e)

-- ---- a tile whose first pixel is (x, y), and what its farthest pixels put to the values there

-- A way within another rises by no more.
rises_one : (z : ℤ) (i m : ℕ) → i ≤ m → (z *ℤ pos i) ≤ℤ (one_way false z *ℤ pos m)
rises_one (pos n) i m h = rw (rising_pos n) (let p = mul-le n i n m (omega arith) h in omega (arith, ints))
rises_one (negsuc n) i m h = omega (arith, ints)

-- And falls by no more.
falls_one : (z : ℤ) (i m : ℕ) → i ≤ m → (one_way true z *ℤ pos m) ≤ℤ (z *ℤ pos i)
falls_one (pos n) i m h = rw (falling_pos n) (omega (arith, ints))
falls_one (negsuc n) i m h = let p = mul-le (suc n) i (suc n) m (omega arith) h in omega (arith, ints)

-- A sum of greater numbers is greater.
sum_up : (p q u v : ℤ) → p ≤ℤ u → q ≤ℤ v → (p +ℤ q) ≤ℤ (u +ℤ v)
sum_up p q u v h k = omega (arith, ints)

module _ (t : Triangle) (w h i j : ℕ) (hi : i ≤ w) (hj : j ≤ h) where
  -- An edge changes within the tile by no more than it rises.
  up_edge : (a b : Point) → edge_change a b (pos (256 * i)) (pos (256 * j)) ≤ℤ edge_farthest false a b w h
  up_edge a b = sum_up _ _ _ _ (rises_one (b.x -ℤ a.x) (256 * j) (256 * h) (omega arith)) (rises_one (a.y -ℤ b.y) (256 * i) (256 * w) (omega arith))

  -- And by no less than it falls.
  down_edge : (a b : Point) → edge_farthest true a b w h ≤ℤ edge_change a b (pos (256 * i)) (pos (256 * j))
  down_edge a b = sum_up _ _ _ _ (falls_one (b.x -ℤ a.x) (256 * j) (256 * h) (omega arith)) (falls_one (a.y -ℤ b.y) (256 * i) (256 * w) (omega arith))

  -- The same of the three edges: they rise.
  pub up_rises : AreUp (changes t (pos (256 * i)) (pos (256 * j))) (farthest false t w h)
  up_rises = record { ab = up_edge t.a t.b; bc = up_edge t.b t.c; ca = up_edge t.c t.a }

  -- And fall.
  pub falls_up : AreUp (farthest true t w h) (changes t (pos (256 * i)) (pos (256 * j)))
  falls_up = record { ab = down_edge t.a t.b; bc = down_edge t.b t.c; ca = down_edge t.c t.a }

module _ (t : Triangle) (os : List (ℤ × ℤ)) (x y w h : ℕ) (m : Numbers) (positive : pos 0 <ℤ edge_function t.a t.b t.c) where
  -- The values at a pixel of the tile, by its own place.
  to_pixel : (i j : ℕ) → x ≤ i → y ≤ j → plus_all (values_at t (pixel_centre x y)) (changes t (pos (256 * (i - x))) (pos (256 * (j - y)))) ≡ values_at t (pixel_centre i j)
  to_pixel i j xi yj = values_stepped t (pixel_centre x y) (pixel_centre i j) (pos (256 * (i - x))) (pos (256 * (j - y))) (omega (arith, ints)) (omega (arith, ints))

  -- no pixel of the tile, where an edge accepts nothing in it
  pub tile_outside : ((k : ℕ) → k < length os → AreUp (sample_changes t os k) m) → none_below (plus_all (plus_all (values_at t (pixel_centre x y)) (farthest false t w h)) m) ≡ false
      → (i j : ℕ) → x ≤ i → i ≤ x + w → y ≤ j → j ≤ y + h → mask t os i j ≡ 0
  tile_outside up e i j xi ix yj jy =
      let first = values_at t (pixel_centre x y) in
      let here = values_at t (pixel_centre i j) in
      let u : AreUp here (plus_all first (farthest false t w h)) = subst (λ (n : Numbers). AreUp n (plus_all first (farthest false t w h))) (to_pixel i j xi yj) (plus_up first _ (farthest false t w h) (up_rises t w h (i - x) (j - y) (omega arith) (omega arith))) in
      sym (mask_values t os i j positive (length os)) ∙ mask_outside t os here m up (below_down (plus_all here m) (plus_all (plus_all first (farthest false t w h)) m) (up_plus m here (plus_all first (farthest false t w h)) u) e)

  -- all of it, where the three edges accept everything in it
  pub tile_inside : ((k : ℕ) → k < length os → AreUp m (sample_changes t os k)) → none_below (plus_all (plus_all (values_at t (pixel_centre x y)) (farthest true t w h)) m) ≡ true
      → (i j : ℕ) → x ≤ i → i ≤ x + w → y ≤ j → j ≤ y + h → mask t os i j ≡ 2 ^ length os - 1
  tile_inside up e i j xi ix yj jy =
      let first = values_at t (pixel_centre x y) in
      let here = values_at t (pixel_centre i j) in
      let u : AreUp (plus_all first (farthest true t w h)) here = subst (λ (n : Numbers). AreUp (plus_all first (farthest true t w h)) n) (to_pixel i j xi yj) (plus_up first (farthest true t w h) _ (falls_up t w h (i - x) (j - y) (omega arith) (omega arith))) in
      sym (mask_values t os i j positive (length os)) ∙ mask_inside t os here m up (up_none_below (plus_all (plus_all first (farthest true t w h)) m) (plus_all here m) (up_plus m (plus_all first (farthest true t w h)) here u) e)

-- What is not so is false.
of_not : (v : Bool) → not v ≡ true → v ≡ false
of_not true e = sym e
of_not false e = refl

module _ (t : Triangle) (n : ℕ) (os : List (ℤ × ℤ)) (b : Tile) (start m : Numbers) (positive : pos 0 <ℤ edge_function t.a t.b t.c) (is : IsTile b) (e : start ≡ values_at t (pixel_centre b.x b.y)) where
  -- A tile that is rejected has no hits.
  pub rejected : ((k : ℕ) → k < length os → AreUp (sample_changes t os k) m) → not (none_below (highest t start b m)) ≡ true → block_hits t n os b.x b.w b.y b.h ≡ []
  rejected up never =
      let none = subst (λ (v : Numbers). none_below (highest t v b m) ≡ false) e (of_not _ never) in
      block_none t n os b.x b.w b.y b.h (λ i j xl xg yl yg. tile_outside t os b.x b.y (b.w - 1) (b.h - 1) m positive up none i j xl (omega (arith, is.w_some)) yl (omega (arith, is.h_some)))

  -- One that is accepted has those of its pixels, all of one mask.
  pub fully_accepted : ((k : ℕ) → k < length os → AreUp m (sample_changes t os k)) → none_below (lowest t start b m) ≡ true → 0 < 2 ^ length os - 1 → full_hits n (2 ^ length os - 1) b.x b.w b.y b.h ≡ block_hits t n os b.x b.w b.y b.h
  fully_accepted up ever some =
      let all = subst (λ (v : Numbers). none_below (lowest t v b m) ≡ true) e ever in
      block_full t n os b.x b.w (2 ^ length os - 1) some b.y b.h (λ i j xl xg yl yg. tile_inside t os b.x b.y (b.w - 1) (b.h - 1) m positive up all i j xl (omega (arith, is.w_some)) yl (omega (arith, is.h_some)))

-- ---- room for the values of the samples of a pixel

-- A width has room for values at places within its reach.
pub values_room : (r : ℕ) (t : Triangle) (s : Point) → 2 ^ 22 ≤ r → AreWithin r t → IsWithin r s → IsRoomFor r (values_at t s)
values_room r t s wide near h =
    let u = value_room r t.a t.b s wide near.0 near.1 h in
    let v = value_room r t.b t.c s wide near.1 near.2 h in
    let w = value_room r t.c t.a s wide near.2 near.0 h in
    (omega arith, omega arith, omega arith)

-- And for what is put to them.
pub values_small : (r : ℕ) (t : Triangle) (s : Point) → 2 ^ 22 ≤ r → AreWithin r t → IsWithin r s → AreAtMost (9 * (r * r)) (values_at t s)
values_small r t s wide near h = (value_room r t.a t.b s wide near.0 near.1 h, value_room r t.b t.c s wide near.1 near.2 h, value_room r t.c t.a s wide near.2 near.0 h)

-- The centre of a pixel is within reach.
pub centre_near : (r x y : ℕ) → 2 ^ 22 ≤ r → x ≤ 4200 → y ≤ 4200 → IsWithin r (pixel_centre x y)
centre_near r x y wide hx hy = (omega (arith, ints), omega (arith, ints))

-- the values at the next pixel
module _ (r : ℕ) (t : Triangle) (x y i : ℕ) (n d : Numbers) where
  -- A step to the right, in a row of pixels from (x, y) on.
  pub step_right : n ≡ values_at t (pixel_centre (x + i) y) → d ≡ changes t (pos 256) (pos 0) → plus_all n d ≡ values_at t (pixel_centre (x + (i + 1)) y)
  step_right e f = ap₂ plus_all e f ∙ values_stepped t (pixel_centre (x + i) y) (pixel_centre (x + (i + 1)) y) (pos 256) (pos 0) (omega (arith, ints)) (omega (arith, ints))

  -- A width has room for it.
  pub room_right : n ≡ values_at t (pixel_centre (x + i) y) → d ≡ changes t (pos 256) (pos 0) → 2 ^ 22 ≤ r → AreWithin r t → x + i < 4200 → y ≤ 4200 → IsRoomFor r (plus_all n d)
  room_right e f wide near hx hy = subst (IsRoomFor r) (sym (step_right e f)) (values_room r t (pixel_centre (x + (i + 1)) y) wide near (centre_near r (x + (i + 1)) y wide (omega arith) hy))

  -- And one down, in a column.
  pub step_down : n ≡ values_at t (pixel_centre x (y + i)) → d ≡ changes t (pos 0) (pos 256) → plus_all n d ≡ values_at t (pixel_centre x (y + (i + 1)))
  step_down e f = ap₂ plus_all e f ∙ values_stepped t (pixel_centre x (y + i)) (pixel_centre x (y + (i + 1))) (pos 0) (pos 256) (omega (arith, ints)) (omega (arith, ints))

  -- A width has room for it.
  pub room_down : n ≡ values_at t (pixel_centre x (y + i)) → d ≡ changes t (pos 0) (pos 256) → 2 ^ 22 ≤ r → AreWithin r t → x ≤ 4200 → y + i < 4200 → IsRoomFor r (plus_all n d)
  room_down e f wide near hx hy = subst (IsRoomFor r) (sym (step_down e f)) (values_room r t (pixel_centre x (y + (i + 1))) wide near (centre_near r x (y + (i + 1)) wide hx (omega arith)))

-- One of three tests passes where one of three stricter ones passes.
one_of_three : (u v w x y z : Bool) → (u ≡ true → x ≡ true) → (v ≡ true → y ≡ true) → (w ≡ true → z ≡ true) → (u || v || w) ≡ true → (x || y || z) ≡ true
one_of_three true v w true y z f g h e = refl
one_of_three true v w false y z f g h e = absurd (true≢false (sym (f refl)))
one_of_three false true w true y z f g h e = refl
one_of_three false true w false true z f g h e = refl
one_of_three false true w false false z f g h e = absurd (true≢false (sym (g refl)))
one_of_three false false true true y z f g h e = refl
one_of_three false false true false true z f g h e = refl
one_of_three false false true false false true f g h e = refl
one_of_three false false true false false false f g h e = absurd (true≢false (sym (h refl)))
one_of_three false false false x y z f g h e = absurd (true≢false (sym e))

-- Of three pairs of tests one passes, so some first test passes.
some_below : (u v w x y z : Bool) → ((u && x) || (v && y) || (w && z)) ≡ true → (not u && not v && not w) ≡ false
some_below true v w x y z e = refl
some_below false true w x y z e = refl
some_below false false true x y z e = refl
some_below false false false x y z e = absurd (true≢false (sym e))

-- What stays below 0 is below 0.
pub stays_is_below : (n d : Numbers) → stays_below n d ≡ true → none_below n ≡ false
stays_is_below n d e = some_below (int_lt n.ab (pos 0)) (int_lt n.bc (pos 0)) (int_lt n.ca (pos 0)) (int_lt d.ab (pos 0)) (int_lt d.bc (pos 0)) (int_lt d.ca (pos 0)) e

-- A number below 0 falls.
falls_on : (x y z : ℤ) → z ≡ x +ℤ y → (int_lt x (pos 0) && int_lt y (pos 0)) ≡ true → (int_lt z (pos 0) && int_lt y (pos 0)) ≡ true
falls_on x y z f h =
    let p = and_parts (int_lt x (pos 0)) (int_lt y (pos 0)) h in
    rw (lt_true z (pos 0) (omega (arith, ints, p.0, p.1)), p.1) refl

-- And stays there after one change more.
pub stays_on : (m n d : Numbers) → stays_below (plus_all n m) d ≡ true → stays_below (plus_all (plus_all n d) m) d ≡ true
stays_on m n d e = one_of_three _ _ _ _ _ _ (falls_on (n.ab +ℤ m.ab) d.ab (n.ab +ℤ d.ab +ℤ m.ab) (omega (arith, ints))) (falls_on (n.bc +ℤ m.bc) d.bc (n.bc +ℤ d.bc +ℤ m.bc) (omega (arith, ints))) (falls_on (n.ca +ℤ m.ca) d.ca (n.ca +ℤ d.ca +ℤ m.ca) (omega (arith, ints))) e

-- A row of pixels from (x, y) on, where an edge accepts no sample of pixel (x + i, y), and the less the farther to the right.
module _ (t : Triangle) (os : List (ℤ × ℤ)) (x y i : ℕ) (m d : Numbers) (e : d ≡ changes t (pos 256) (pos 0)) where
  -- It accepts none so many pixels farther.
  row_stays : (j : ℕ) → stays_below (plus_all (values_at t (pixel_centre (x + i) y)) m) d ≡ true → stays_below (plus_all (values_at t (pixel_centre (x + (i + j)) y)) m) d ≡ true
  row_stays zero h = let z : i + 0 ≡ i = omega arith in rw z h
  row_stays (suc j) h =
      let n = values_at t (pixel_centre (x + (i + j)) y) in
      let z : i + suc j ≡ i + j + 1 = omega arith in
      rw z (subst (λ (v : Numbers). stays_below (plus_all v m) d ≡ true) (step_right 0 t x y (i + j) n d refl e) (stays_on m n d (row_stays j h)))

  -- So no pixel from there on has a sample.
  pub row_outside : pos 0 <ℤ edge_function t.a t.b t.c → ((k : ℕ) → k < length os → AreUp (sample_changes t os k) m)
      → stays_below (plus_all (values_at t (pixel_centre (x + i) y)) m) d ≡ true → (p : ℕ) → x + i ≤ p → mask t os p y ≡ 0
  row_outside positive up h p l =
      let z : x + (i + (p - (x + i))) ≡ p = omega arith in
      let s = subst (λ (q : ℕ). stays_below (plus_all (values_at t (pixel_centre q y)) m) d ≡ true) z (row_stays (p - (x + i)) h) in
      sym (mask_values t os p y positive (length os)) ∙ mask_outside t os (values_at t (pixel_centre p y)) m up (stays_is_below (plus_all (values_at t (pixel_centre p y)) m) d s)

-- ---- the least and the greatest change to a sample

-- The order of three numbers each is transitive.
pub up_trans : (m n k : Numbers) → AreUp m n → AreUp n k → AreUp m k
up_trans m n k h i = record { ab = omega (arith, ints, h.ab, i.ab); bc = omega (arith, ints, h.bc, i.bc); ca = omega (arith, ints, h.ca, i.ca) }

-- And holds of equal ones.
up_same : (m n : Numbers) → m ≡ n → AreUp m n
up_same m n e = subst (AreUp m) e (record { ab = omega (arith, ints); bc = omega (arith, ints); ca = omega (arith, ints) })

-- The change to a sample is at most a square of the reach.
pub sample_room : (r : ℕ) (t : Triangle) (p : Pattern) (k : ℕ) → 2 ^ 22 ≤ r → AreWithin r t → k < length (offsets_of p) → AreAtMost (r * r) (sample_changes t (offsets_of p) k)
sample_room r t p k wide near l =
    let n = offset_near p k l in
    let m = reach_small p in
    let o : ℤ × ℤ = slice_index_or (offsets_of p) k (pos 0, pos 0) in
    let x : unsigned_abs (pos 16 *ℤ o.0) ≤ 2 ^ 20 = omega (arith, m, sixteenth o.0 (reach_of p) n.0) in
    let y : unsigned_abs (pos 16 *ℤ o.1) ≤ 2 ^ 20 = omega (arith, m, sixteenth o.1 (reach_of p) n.1) in
    (change_room r t.a t.b _ _ wide near.0 near.1 x y, change_room r t.b t.c _ _ wide near.1 near.2 x y, change_room r t.c t.a _ _ wide near.2 near.0 x y)

-- of the first sample
pub one_between : (r : ℕ) (t : Triangle) (p : Pattern) (c : Numbers) → 2 ^ 22 ≤ r → AreWithin r t → c ≡ sample_changes t (offsets_of p) 0 → AreBetween r t (offsets_of p) 1 c c
one_between r t p c wide near e = record {
  low = λ j l. let z : j ≡ 0 = omega arith in subst (λ (k : ℕ). AreUp c (sample_changes t (offsets_of p) k)) (sym z) (up_same c (sample_changes t (offsets_of p) 0) e);
  high = λ j l. let z : j ≡ 0 = omega arith in subst (λ (k : ℕ). AreUp (sample_changes t (offsets_of p) k) c) (sym z) (up_same (sample_changes t (offsets_of p) 0) c (sym e));
  min_small = small;
  max_small = small;
} where
  small : AreAtMost (r * r) c
  small = subst (AreAtMost (r * r)) (sym e) (sample_room r t p 0 wide near (offsets_some p))

module _ (r : ℕ) (t : Triangle) (os : List (ℤ × ℤ)) where
  -- of one sample more
  pub more_between : (k : ℕ) (m n c u v : Numbers) → AreBetween r t os k m n → c ≡ sample_changes t os k → AreUp u m → AreUp u c → AreUp n v → AreUp c v → AreAtMost (r * r) u → AreAtMost (r * r) v → AreBetween r t os (k + 1) u v
  more_between k m n c u v is e um uc nv cv us vs = record {
    low = λ j l. elim (cases_lt j k) as (λ _. AreUp u (sample_changes t os j)) [
      | inl f ↦ up_trans u m (sample_changes t os j) um (is.low j f)
      | inr f ↦ let z : k ≡ j = omega arith in subst (λ (i : ℕ). AreUp u (sample_changes t os i)) z (subst (AreUp u) e uc)
    ];
    high = λ j l. elim (cases_lt j k) as (λ _. AreUp (sample_changes t os j) v) [
      | inl f ↦ up_trans (sample_changes t os j) n v (is.high j f) nv
      | inr f ↦ let z : k ≡ j = omega arith in subst (λ (i : ℕ). AreUp (sample_changes t os i) v) z (subst (λ (d : Numbers). AreUp d v) e cv)
    ];
    min_small = us;
    max_small = vs;
  }
