-- Tables of points on the screen, and triangles whose corners all stand in one.
use Rattle.std.proofs.Common.{◌≡◌, ◌∙◌, sym, ap, subst, refl, ℕ, zero, suc, ◌+◌, ◌-◌, ◌*◌, ◌/◌, ◌^◌, ◌<◌, ◌≤◌, min, Bool, true, false, ℤ, List, [], ◌∷◌, map, take, drop, length, get_or, Option, Some, None, IfSome, ◌⊎◌, inl, inr, mul-le-mul, arith}
use Rattle.std.specs.Prelude.{unsigned_abs, nat_lt, if◌then◌else◌}
use Rattle.std.proofs.lemmas.Option.{none-some, same_Some}
use Rattle.std.proofs.lemmas.Bool.{cases_lt}
use Rattle.std.proofs.Math.Nat.{pow-suc}
use Rattle.std.proofs.lemmas.List.{get_or-take, get_or-drop, length-take}
use Rattle.abuf_raster.specs.declared.point.Point.{Point}
use Rattle.abuf_raster.specs.Triangle.{Triangle as OnScreen}
use Rattle.abuf_scene.specs.declared.triangles.Triangle.{Triangle}
use Rattle.abuf_view.specs.Camera.{point_of}
use Rattle.abuf_view.specs.NearPlane.{is_inside, clip_by, three}
use Rattle.abuf_view.specs.Screen.{screen_position, depth_value}
use Rattle.abuf_view.specs.Eye.{eye_point_by, clipped_by, on_screen_by}
use Rattle.abuf_view.specs.declared.eye.Eye.{Eye}
use Rattle.abuf_view.specs.declared.eye.EyePoint.{EyePoint}
use Rattle.abuf_view.specs.declared.near_plane.EyeTriangle.{EyeTriangle}
use Rattle.abuf_view.specs.declared.short_points.ShortPoint.{ShortPoint}
use Rattle.abuf_view.specs.ShortPoints.{short, short_of, short_if, short_point, AreOf, AreChunks, AreEntries, joined, IsWhole}

-- ---- entries

-- What stands in a place of a map is the map of what stands there.
mapped : {X A : Type 0} (f : X → Option A) (xs : List X) (d : X) (k : ℕ) (a : A) → get_or (map f xs) k None ≡ Some a → (k < length xs) × (f (get_or xs k d) ≡ Some a)
mapped f [] d k a is = absurd (none-some a is)
mapped f (x ∷ xs) d zero a is = (omega arith, is)
mapped f (x ∷ xs) d (suc k) a is = let r = mapped f xs d k a is in (omega (arith, r.0), r.1)

-- The entries of all points in turn are theirs.
pub map_are : (e : Eye) (points : List (List ℤ)) (entries : List (Option ShortPoint)) → entries ≡ map (short_point e) points → AreOf e points entries
map_are e points entries made = record { each = λ k s is. mapped (short_point e) points [] k s (sym (ap (λ (l : List (Option ShortPoint)). get_or l k None) made) ∙ is) }

-- No entries are those of any points.
pub none_are : (e : Eye) (points : List (List ℤ)) (entries : List (Option ShortPoint)) → entries ≡ [] → AreOf e points entries
none_are e points entries made = record { each = λ k s is. absurd (none-some s (sym (ap (λ (l : List (Option ShortPoint)). get_or l k None) made) ∙ is)) }

-- A chunk with an entry is one of the chunks.
within : {A : Type 0} (chunks : List (List (Option A))) (n k : ℕ) (a : A) → get_or (get_or chunks n []) k None ≡ Some a → n < length chunks
within [] n k a is = absurd (none-some a is)
within (x ∷ xs) zero k a is = omega arith
within (x ∷ xs) (suc n) k a is = omega (arith, within xs n k a is)

-- The entries of chunks are those of the points from which they were made.
pub entries_are : (e : Eye) (points : List (List ℤ)) (size bits : ℕ) (chunks : List (List (Option ShortPoint))) → size ≡ 2 ^ bits → AreChunks e points size chunks → AreEntries e points bits chunks
entries_are e points size bits chunks same are n k s is =
    let r = (are.each n [] (within chunks n k s is)).each k s is in
    let near : k < size = omega (arith, r.0, length-take size (drop (n * size) points)) in
    let place : get_or (take size (drop (n * size) points)) k [] ≡ get_or points (n * size + k) [] = get_or-take size (drop (n * size) points) k [] near ∙ get_or-drop (n * size) points k [] in
    ap (λ (i : ℕ). short_point e (get_or points (n * i + k) [])) (sym same) ∙ (ap (short_point e) (sym place) ∙ r.1)

-- No chunks have no entries.
pub no_entries : (e : Eye) (points : List (List ℤ)) (bits : ℕ) (chunks : List (List (Option ShortPoint))) → chunks ≡ [] → AreEntries e points bits chunks
no_entries e points bits chunks none n k s is = absurd (none-some s (sym (ap (λ (l : List (List (Option ShortPoint))). get_or (get_or l n []) k None) none) ∙ is))

-- What is found at the place of a point is the entry of that point.
pub entry_is : (e : Eye) (points : List (List ℤ)) (bits place offset : ℕ) (chunks : List (List (Option ShortPoint))) (found : Option ShortPoint) → AreEntries e points bits chunks
    → place / 2 ^ bits * 2 ^ bits + offset ≡ place → found ≡ get_or (get_or chunks (place / 2 ^ bits) []) offset None
    → IfSome found (λ s. short_point e (get_or points place []) ≡ Some s)
entry_is e points bits place offset chunks None are at is = tt
entry_is e points bits place offset chunks (Some s) are at is = subst (λ (i : ℕ). short_point e (get_or points i []) ≡ Some s) at (are (place / 2 ^ bits) offset s (sym is))

-- ---- points

-- A short number is the number.
short_is : (z w : ℤ) → short z ≡ Some w → z ≡ w
unfolding short
short_is z w is = go (nat_lt (unsigned_abs z) 2147483648) is where
  go : (b : Bool) → (if b then Some z else None) ≡ Some w → z ≡ w
  go true h = same_Some z w h
  go false h = absurd (none-some w h)

-- What an entry says of a position on the screen and a depth value.
pub record IsAt (p : Point) (depth : ℕ) (s : ShortPoint) : Type 0 where
  pub position : p ≡ record { x = s.x; y = s.y }
  pub depth_is : depth ≡ s.depth

-- A point in short numbers is at its position.
short_at : (p : Point) (depth : ℕ) (s : ShortPoint) → short_of (short p.x) (short p.y) depth ≡ Some s → IsAt p depth s
short_at p depth s is = go (short p.x) (short p.y) refl refl is where
  go : (x y : Option ℤ) → short p.x ≡ x → short p.y ≡ y → short_of x y depth ≡ Some s → IsAt p depth s
  go None y ex ey h = absurd (none-some s h)
  go (Some x) None ex ey h = absurd (none-some s h)
  go (Some x) (Some y) ex ey h =
      let same = same_Some _ s h in
      let px = short_is p.x x ex ∙ ap (λ (q : ShortPoint). q.x) same in
      let py = short_is p.y y ey ∙ ap (λ (q : ShortPoint). q.y) same in
      record { position = λ i. record { x = px i; y = py i }; depth_is = ap (λ (q : ShortPoint). q.depth) same }

-- What an entry says of a point of eye space.
pub record IsSeen (inside : Bool) (e : Eye) (q : EyePoint) (s : ShortPoint) : Type 0 where
  pub is_in : inside ≡ true
  pub at : IsAt (screen_position e.screen.width e.screen.height e.screen.focal q) (depth_value e.near_plane.w q) s

-- An entry is of a point in front of the near plane, and says where it is on the screen.
seen : (b : Bool) (e : Eye) (q : EyePoint) (s : ShortPoint) → short_if b e q ≡ Some s → IsSeen b e q s
seen false e q s is = absurd (none-some s is)
seen true e q s is = record { is_in = refl; at = short_at (screen_position e.screen.width e.screen.height e.screen.focal q) (depth_value e.near_plane.w q) s is }

-- ---- triangles

module _ (e : Eye) (t : Triangle) (a b c : ShortPoint) where
  abbrev eye_a : EyePoint
  eye_a = eye_point_by e (point_of t.a)

  abbrev eye_b : EyePoint
  eye_b = eye_point_by e (point_of t.b)

  abbrev eye_c : EyePoint
  eye_c = eye_point_by e (point_of t.c)

  -- A triangle whose three corners have entries is one part, whole, with these corners on the screen.
  whole_is : short_point e t.a ≡ Some a → short_point e t.b ≡ Some b → short_point e t.c ≡ Some c → IsWhole e t (joined a b c)
  whole_is ha hb hc =
      let sa = seen (is_inside e.near_plane.w eye_a) e eye_a a ha in
      let sb = seen (is_inside e.near_plane.w eye_b) e eye_b b hb in
      let sc = seen (is_inside e.near_plane.w eye_c) e eye_c c hc in
      let part : clipped_by e t ≡ three eye_a eye_b eye_c ∷ [] = λ i. clip_by (sa.is_in i) (sb.is_in i) (sc.is_in i) e.near_plane.w eye_a eye_b eye_c in
      let pa = sa.at.position in
      let pb = sb.at.position in
      let pc = sc.at.position in
      let da = sa.at.depth_is in
      let db = sb.at.depth_is in
      let dc = sc.at.depth_is in
      let corners : on_screen_by e (three eye_a eye_b eye_c) ≡ joined a b c = λ i. record { a = pa i; b = pb i; c = pc i; qa = da i; qb = db i; qc = dc i } in
      record {
        tris = ap (map (on_screen_by e)) part ∙ ap (λ (o : OnScreen). o ∷ []) corners;
        paints = ap (map (λ (k : EyeTriangle). t.paint)) part;
      }

  -- So is what is made of the three entries.
  pub whole : (made : Option OnScreen) → short_point e t.a ≡ Some a → short_point e t.b ≡ Some b → short_point e t.c ≡ Some c → IfSome made (λ m. m ≡ joined a b c) → IfSome made (IsWhole e t)
  whole None ha hb hc is = tt
  whole (Some m) ha hb hc is = subst (IsWhole e t) (sym is) (whole_is ha hb hc)

-- ---- sizes

-- Two to the power of what the size needs is the size or more, so that as many such chunks as workers have all points.
pub covered : (points threads size log bits : ℕ) → 1 ≤ threads → points ≤ size * threads → 1 ≤ size → size - 1 < 2 * 2 ^ log → bits ≡ min (log + 1) 31 → points ≤ 2 ^ 31
    → points ≤ 2 ^ bits * threads
covered points threads size log bits some all one below least few = go (cases_lt log 31) where
  go : (log < 31) ⊎ (31 ≤ log) → points ≤ 2 ^ bits * threads
  go (inl h) =
      let same : bits ≡ suc log = omega (arith, least) in
      let next : 2 ^ bits ≡ 2 ^ log * 2 = ap (λ (k : ℕ). 2 ^ k) same ∙ pow-suc 2 log in
      let wide : size ≤ 2 ^ bits = omega (arith, next, below, one) in
      let more : size * threads ≤ 2 ^ bits * threads = mul-le-mul wide (omega arith) in
      omega (arith, all, more)
  go (inr h) =
      let same : bits ≡ 31 = omega (arith, least) in
      let most : 2 ^ bits ≡ 2 ^ 31 = ap (λ (k : ℕ). 2 ^ k) same in
      rw most (omega (arith, few, some))
