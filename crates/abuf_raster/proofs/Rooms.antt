-- What fits a width: the values of edges at places within its reach, their changes, rises and falls.
use Rattle.std.proofs.Common.{◌≡◌, refl, sym, subst, ◌-◌, ◌<ℤ◌, ◌≤ℤ◌, ◌∙◌, ap, ap₂, to_z, of_z, w64, ℕ, ◌+◌, ◌*◌, ◌^◌, ◌<◌, ◌≤◌, ℤ, pos, negsuc, ◌+ℤ◌, ◌-ℤ◌, ◌*ℤ◌, unsigned_abs, arith, Bool, true, false, if◌then◌else◌, ◌||◌}
use Rattle.std.specs.Prelude.{int_lt}
use borrow.Author.Differences.{true_is_lt, false_is_lt}
use Rattle.std.proofs.lemmas.Int.{ints}
use Rattle.std.proofs.lemmas.Nat.{mul-le}
use Rattle.abuf_raster.specs.declared.point.Point.{Point}
use Rattle.abuf_raster.specs.Edge.{edge_function, is_left_edge, is_top_edge}
use Rattle.abuf_raster.specs.Triangle.{Triangle, IsWithin, AreWithin}
use Rattle.abuf_raster.specs.Values.{Numbers, edge_value, edge_change, one_way, farthest, plus_all, AreAtMost, IsRoomFor}
use Rattle.abuf_raster.specs.declared.tile.Tile.{Tile}
use Rattle.abuf_raster.specs.Walk.{IsTile}
use Rattle.abuf_raster.proofs.Bounds.{abs-add, abs-sub, abs-mul, back64}

-- a reach times itself is large
wide_square : (r : ℕ) → 2 ^ 22 ≤ r → 4194304 * r ≤ r * r
wide_square r h = mul-le 4194304 r r r h (omega arith)

-- An edge function of places within a reach is at most 8 times its square.
E_room : (r : ℕ) (a b s : Point) → IsWithin r a → IsWithin r b → IsWithin r s → unsigned_abs (edge_function a b s) ≤ 8 * (r * r)
E_room r a b s ha hb hs =
    let p = abs-mul (b.x -ℤ a.x) (s.y -ℤ a.y) (r + r) (r + r) (abs-sub b.x a.x r r (omega (arith, hb.0)) (omega (arith, ha.0))) (abs-sub s.y a.y r r (omega (arith, hs.1)) (omega (arith, ha.1))) in
    let q = abs-mul (b.y -ℤ a.y) (s.x -ℤ a.x) (r + r) (r + r) (abs-sub b.y a.y r r (omega (arith, hb.1)) (omega (arith, ha.1))) (abs-sub s.x a.x r r (omega (arith, hs.0)) (omega (arith, ha.0))) in
    let all = abs-sub ((b.x -ℤ a.x) *ℤ (s.y -ℤ a.y)) ((b.y -ℤ a.y) *ℤ (s.x -ℤ a.x)) ((r + r) * (r + r)) ((r + r) * (r + r)) p q in
    omega (arith, all)

-- A number less 1 or 0 is at most one farther from 0.
bias_small : (p : Bool) (z : ℤ) (n : ℕ) → unsigned_abs z ≤ n → unsigned_abs (z -ℤ (if p then pos 0 else pos 1)) ≤ n + 1
bias_small true z n h = omega (arith, ints)
bias_small false z n h = omega (arith, ints)

-- A value is at most 9 times the square.
pub value_room : (r : ℕ) (a b s : Point) → 2 ^ 22 ≤ r → IsWithin r a → IsWithin r b → IsWithin r s → unsigned_abs (edge_value a b s) ≤ 9 * (r * r)
value_room r a b s wide ha hb hs =
    let w = wide_square r wide in
    let e = bias_small (is_left_edge a b || is_top_edge a b) (edge_function a b s) (8 * (r * r)) (E_room r a b s ha hb hs) in
    omega (arith, e, w)

-- the value less one
pub less_one_room : (r : ℕ) (a b s : Point) (z : ℤ) → 2 ^ 22 ≤ r → IsWithin r a → IsWithin r b → IsWithin r s → z ≡ edge_function a b s → unsigned_abs (z -ℤ pos 1) ≤ 14 * (r * r)
less_one_room r a b s z wide ha hb hs e =
    let w = wide_square r wide in
    let h = E_room r a b s ha hb hs in
    let l : unsigned_abs (edge_function a b s -ℤ pos 1) ≤ 14 * (r * r) = omega (arith, h, w, abs-sub (edge_function a b s) (pos 1) (8 * (r * r)) 1 h (omega arith)) in
    rw e l

-- a change
pub change_room : (r : ℕ) (a b : Point) (x y : ℤ) → 2 ^ 22 ≤ r → IsWithin r a → IsWithin r b → unsigned_abs x ≤ 2 ^ 20 → unsigned_abs y ≤ 2 ^ 20 → unsigned_abs (edge_change a b x y) ≤ r * r
change_room r a b x y wide ha hb hx hy =
    let w = wide_square r wide in
    let p = abs-mul (b.x -ℤ a.x) y (r + r) 1048576 (abs-sub b.x a.x r r (omega (arith, hb.0)) (omega (arith, ha.0))) hy in
    let q = abs-mul (a.y -ℤ b.y) x (r + r) 1048576 (abs-sub a.y b.y r r (omega (arith, ha.1)) (omega (arith, hb.1))) hx in
    omega (arith, w, abs-add ((b.x -ℤ a.x) *ℤ y) ((a.y -ℤ b.y) *ℤ x) ((r + r) * 1048576) ((r + r) * 1048576) p q)

-- the product of a difference of two coordinates with a distance, as an i64
pub clean_product : (n d x y z : ℤ) → unsigned_abs x < 2 ^ 45 → unsigned_abs y < 2 ^ 45 → unsigned_abs z ≤ 2 ^ 20 → d ≡ to_z w64 (of_z w64 x) -ℤ to_z w64 (of_z w64 y)
    → n ≡ to_z w64 (of_z w64 d) *ℤ to_z w64 (of_z w64 z) → n ≡ (x -ℤ y) *ℤ z
clean_product n d x y z hx hy hz e f =
    let b : to_z w64 (of_z w64 d) ≡ x -ℤ y = omega (arith, ints, e) in
    f ∙ ap₂ (λ (u v : ℤ). u *ℤ v) b (back64 z (omega arith))

-- an order, as the code tests it
pub lt_true : (a b : ℤ) → a <ℤ b → int_lt a b ≡ true
lt_true a b h = sym (true_is_lt a b (omega (arith, ints)))

-- And its reverse.
pub lt_false : (a b : ℤ) → b ≤ℤ a → int_lt a b ≡ false
lt_false a b h = sym (false_is_lt a b (omega (arith, ints)))

-- the parts of slopes
pub rising_pos : (n : ℕ) → one_way false (pos n) ≡ pos n
rising_pos n = rw (lt_false (pos n) (pos 0) (omega (arith, ints))) refl

-- A slope that rises does not fall.
pub falling_pos : (n : ℕ) → one_way true (pos n) ≡ pos 0
falling_pos n = rw (lt_false (pos n) (pos 0) (omega (arith, ints))) refl

-- they are no steeper than the slope
pub one_way_small : (falls : Bool) (z : ℤ) → unsigned_abs (one_way falls z) ≤ unsigned_abs z
one_way_small true (pos n) = rw (falling_pos n) (omega arith)
one_way_small false (pos n) = rw (rising_pos n) (omega arith)
one_way_small true (negsuc n) = omega arith
one_way_small false (negsuc n) = omega arith

-- what the parts of both slopes make of a way within a tile
module _ (falls : Bool) where
  -- It is at most a square of the reach.
  pub part_room : (r : ℕ) (a b : Point) (w h : ℕ) → 2 ^ 22 ≤ r → IsWithin r a → IsWithin r b → w ≤ 8 → h ≤ 8 → unsigned_abs (one_way falls (b.x -ℤ a.x) *ℤ pos (256 * h) +ℤ one_way falls (a.y -ℤ b.y) *ℤ pos (256 * w)) ≤ r * r
  part_room r a b w h wide ha hb hw hh =
      let s = wide_square r wide in
      let p = abs-mul (one_way falls (b.x -ℤ a.x)) (pos (256 * h)) (r + r) 2048 (omega (arith, one_way_small falls (b.x -ℤ a.x), abs-sub b.x a.x r r (omega (arith, hb.0)) (omega (arith, ha.0)))) (omega arith) in
      let q = abs-mul (one_way falls (a.y -ℤ b.y)) (pos (256 * w)) (r + r) 2048 (omega (arith, one_way_small falls (a.y -ℤ b.y), abs-sub a.y b.y r r (omega (arith, ha.1)) (omega (arith, hb.1)))) (omega arith) in
      omega (arith, s, abs-add (one_way falls (b.x -ℤ a.x) *ℤ pos (256 * h)) (one_way falls (a.y -ℤ b.y) *ℤ pos (256 * w)) ((r + r) * 2048) ((r + r) * 2048) p q)

  -- as an i64
  pub clean_part : (n f x y : ℤ) (k : ℕ) → unsigned_abs x < 2 ^ 45 → unsigned_abs y < 2 ^ 45 → k ≤ 2048 → f ≡ one_way falls (to_z w64 (of_z w64 x) -ℤ to_z w64 (of_z w64 y))
      → n ≡ to_z w64 (of_z w64 f) *ℤ to_z w64 k → n ≡ one_way falls (x -ℤ y) *ℤ pos k
  clean_part n f x y k hx hy hk g h =
      let c : to_z w64 (of_z w64 x) -ℤ to_z w64 (of_z w64 y) ≡ x -ℤ y = omega (arith, ints) in
      let i : f ≡ one_way falls (x -ℤ y) = g ∙ ap (one_way falls) c in
      let near = abs-sub x y (2 ^ 45) (2 ^ 45) (omega arith) (omega arith) in
      let j : to_z w64 (of_z w64 f) ≡ one_way falls (x -ℤ y) = ap (λ (z : ℤ). to_z w64 (of_z w64 z)) i ∙ back64 (one_way falls (x -ℤ y)) (omega (arith, one_way_small falls (x -ℤ y), near)) in
      let w : to_z w64 k ≡ pos k = omega (arith, ints) in
      h ∙ ap₂ (λ (x y : ℤ). x *ℤ y) j w

-- values at a position, with at most a square of the reach put to each, once and twice
pub more_fits : (r : ℕ) (n m : Numbers) → AreAtMost (9 * (r * r)) n → AreAtMost (r * r) m → IsRoomFor r (plus_all n m)
more_fits r n m h k =
    (omega (arith, abs-add n.ab m.ab _ _ h.0 k.0), omega (arith, abs-add n.bc m.bc _ _ h.1 k.1), omega (arith, abs-add n.ca m.ca _ _ h.2 k.2))

-- The same, put twice.
pub most_fits : (r : ℕ) (n m k : Numbers) → AreAtMost (9 * (r * r)) n → AreAtMost (r * r) m → AreAtMost (r * r) k → IsRoomFor r (plus_all (plus_all n m) k)
most_fits r n m k h i j = (both n.ab m.ab k.ab h.0 i.0 j.0, both n.bc m.bc k.bc h.1 i.1 j.1, both n.ca m.ca k.ca h.2 i.2 j.2) where
  both : (x y z : ℤ) → unsigned_abs x ≤ 9 * (r * r) → unsigned_abs y ≤ r * r → unsigned_abs z ≤ r * r → unsigned_abs ((x +ℤ y) +ℤ z) ≤ 14 * (r * r)
  both x y z p q s = omega (arith, abs-add (x +ℤ y) z _ _ (abs-add x y _ _ p q) s)

-- what is put to the values at the first pixel of a tile, for the farthest pixel and then for its samples
module _ (r : ℕ) (t : Triangle) (b : Tile) (falls : Bool) (n m : Numbers) (wide : 2 ^ 22 ≤ r) (near : AreWithin r t) (is : IsTile b) (start : AreAtMost (9 * (r * r)) n) (e : m ≡ farthest falls t (b.w - 1) (b.h - 1)) where
  -- It is at most a square of the reach.
  small : AreAtMost (r * r) m
  small =
      let room = λ (p q : Point) (hp : IsWithin r p) (hq : IsWithin r q). part_room falls r p q (b.w - 1) (b.h - 1) wide hp hq (omega (arith, is.w_small)) (omega (arith, is.h_small)) in
      subst (AreAtMost (r * r)) (sym e) (room t.a t.b near.0 near.1, room t.b t.c near.1 near.2, room t.c t.a near.2 near.0)

  -- A width has room for the first sum.
  pub tile_fits : IsRoomFor r (plus_all n m)
  tile_fits = more_fits r n m start small

  -- And for the second.
  pub tile_samples_fit : (o k : Numbers) → o ≡ plus_all n m → AreAtMost (r * r) k → IsRoomFor r (plus_all o k)
  tile_samples_fit o k f j = subst (λ (o : Numbers). IsRoomFor r (plus_all o k)) (sym f) (most_fits r n m k start small j)
