use Rattle.std.proofs.Common.{◌≡◌, ◌∙◌, ◌+◌, ◌*◌, ◌^◌, ◌<◌, ℕ, ℤ, pos, neg_ℤ, ◌-ℤ◌, ◌<ℤ◌, ap, refl, sym, subst, unsigned_abs, to_z, of_z, w64, arith}
use Rattle.std.proofs.lemmas.Int.{ints, to_z-of_z}
use Rattle.std.proofs.lemmas.Nat.{mul-le}
use Rattle.abuf_raster.specs.Edge.{edge_function}
use Rattle.abuf_raster.specs.Triangle.{Triangle, AreWithin}
use Rattle.abuf_raster.specs.Slopes.{slope_across, slope_down}
use Rattle.abuf_raster.proofs.Bounds.{back64}
use Rattle.abuf_raster.proofs.Planes.{sum_is, move, more_is, slope_is, max_is}
use Rattle.abuf_raster.proofs.plane.Coefficients.of.Goals as goal

whole : (r : ℤ) (d : ℕ) → pos 0 <ℤ r → d ≡ unsigned_abs r → r ≡ pos d
whole r d h e = omega (arith, ints)

less : (d x : ℤ) → unsigned_abs x < 2 ^ 45 → d ≡ pos 0 -ℤ to_z w64 (of_z w64 x) → to_z w64 (of_z w64 d) ≡ neg_ℤ x
less d x h e = omega (arith, ints)

fits : (z : ℤ) → unsigned_abs z < 2 ^ 29 → unsigned_abs (to_z w64 (of_z w64 z)) < 2 ^ 29
fits z h = omega (arith, ints)

pub returns : goal.returns
returns c =
    let t = c.t.inside in
    let u : Triangle = record { a = t.a; b = t.b; c = t.c; qa = t.qa; qb = t.qb; qc = t.qc } in
    let n = c.t.invariant in
    let r : ℤ = c.edge_function-area.result in
    let back : to_z w64 (of_z w64 r) ≡ r = to_z-of_z w64 r (record { sfits = c.edge_function-area.type_inv }) in
    let some : pos 0 <ℤ r = omega (arith, ints, back) in
    let area : r ≡ pos c.of.result.divisor = whole r c.of.result.divisor some (c.of.ensures ∙ ap unsigned_abs back) in
    let max_depth = max_is t.qa t.qb t.qc c.max.result c.max-max_depth.result c.max.ensures c.max-max_depth.ensures in
    let room : unsigned_abs (to_z w64 (of_z w64 r)) * (c.max-max_depth.result + 1) < 2 ^ 62 = omega (arith, ints, back) in
    let across : to_z w64 (of_z w64 c.slope-across.result) ≡ slope_across u =
    to_z-of_z w64 c.slope-across.result (record { sfits = c.slope-across.type_inv })
    ∙ slope_is c.slope-across.result t.a.y t.b.y t.c.y t.qa t.qb t.qc c.slope-across.ensures.value n.a_near.1 n.b_near.1 n.c_near.1 in
    let down : to_z w64 (of_z w64 c.slope-down.result) ≡ slope_down u =
    to_z-of_z w64 c.slope-down.result (record { sfits = c.slope-down.type_inv })
    ∙ slope_is c.slope-down.result t.a.x t.c.x t.b.x t.qa t.qc t.qb c.slope-down.ensures.value n.a_near.0 n.c_near.0 n.b_near.0 in
    let first = more_is c.more-at_corner.result (pos 0) r (pos t.qa) (pos 0) (edge_function t.a t.b t.c) (pos t.qa) c.more-at_corner.ensures refl (back ∙ c.edge_function-area.ensures) (back64 (pos t.qa) (let q = n.qa_small in omega arith)) in
    let second = more_is c.more-at_side.result c.more-at_corner.result c.slope-across.result c.difference.result c.more-at_corner.result (to_z w64 (of_z w64 c.slope-across.result)) (neg_ℤ t.a.x) c.more-at_side.ensures (to_z-of_z w64 c.more-at_corner.result (record { sfits = c.more-at_corner.type_inv })) refl (less c.difference.result t.a.x n.a_near.0 c.difference.ensures.value) in
    let third =
    to_z-of_z w64 c.more-start.result (record { sfits = c.more-start.type_inv })
    ∙ more_is c.more-start.result c.more-at_side.result c.slope-down.result c.difference-2.result c.more-at_side.result (to_z w64 (of_z w64 c.slope-down.result)) (neg_ℤ t.a.y) c.more-start.ensures (to_z-of_z w64 c.more-at_side.result (record { sfits = c.more-at_side.type_inv })) refl (less c.difference-2.result t.a.y n.a_near.1 c.difference-2.ensures.value) in
    move u c.args.t.now c.t.view_is (record {
      area = sym c.edge_function-area.ensures ∙ area;
      nearest = omega (arith, max_depth, n.qa_small, n.qb_small, n.qc_small, c.max.ensures, c.max-max_depth.ensures);
      depths = subst (λ (k : ℕ). k < 2 ^ 62) (λ i. sym c.of.ensures i * (max_depth i + 1)) room;
      to_right = across;
      to_bottom = down;
      sum = sum_is u _ _ _ c.more-at_corner.result c.more-at_side.result across down first second third;
    })

pub slope-across-requires-clause-small : goal.slope-across-requires-clause-small
slope-across-requires-clause-small c = let w = subst (AreWithin (2 ^ 29)) (sym c.t.view_is) (c.is_small.ensures.small.0 c.if-not-is_small.false) in
    (fits c.t.inside.a.y w.0.1, fits c.t.inside.b.y w.1.1, fits c.t.inside.c.y w.2.1)

pub slope-down-requires-clause-small : goal.slope-down-requires-clause-small
slope-down-requires-clause-small c = let w = subst (AreWithin (2 ^ 29)) (sym c.t.view_is) (c.is_small.ensures.small.0 c.if-not-is_small.false) in
    (fits c.t.inside.a.x w.0.0, fits c.t.inside.c.x w.2.0, fits c.t.inside.b.x w.1.0)

pub overflow_mul-area : goal.overflow_mul-area
overflow_mul-area c = let m = mul-le (unsigned_abs (to_z w64 (of_z w64 c.edge_function-area.result))) (c.max-max_depth.result + 1) (2 ^ 63) (2 ^ 33) (omega (arith, ints)) (omega arith) in omega (arith, m)
