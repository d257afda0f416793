use Rattle.std.proofs.Common.{arith, subst, slice_index_or, true, ℕ, ◌<◌, ◌^◌, ◌≡◌, ◌≤◌, ◌∙◌, ap, ap₂, pos, unsigned_abs, ◌<ℤ◌, ◌≤ℤ◌, ℤ, to_z, of_z}
use Rattle.std.specs.Int.{w128}
use Rattle.std.proofs.lemmas.Int.{ints, to_z-of_z}
use Rattle.std.proofs.lemmas.Bool.{and_parts}
use Rattle.abuf_raster.proofs.Acceptance.{positive_area}
use Rattle.abuf_num.specs.Division.{floor_div}
use Rattle.abuf_raster.proofs.Bounds.{back128}
use Rattle.abuf_raster.proofs.Means.{key_between}
use Rattle.abuf_raster.specs.Edge.{edge_function}
use Rattle.abuf_raster.specs.Triangle.{Triangle, has_area, positive_order}
use Rattle.abuf_raster.specs.declared.point.Point.{Point}
use Rattle.abuf_raster.specs.Coverage.{all_accept}
use Rattle.abuf_raster.specs.Samples.{sample_position, offsets_of}
use Rattle.abuf_raster.specs.Depth.{weighted_depth, depth_of, depth_key}
use Rattle.abuf_raster.proofs.triangle.depth.depth_at.Goals as goal
use Rattle.abuf_raster.proofs.triangle.depth.depth_at.Goals.{After-weighted_depth-sum, After-floor_div}

area : (c : After-weighted_depth-sum) → c.edge_function-area.result ≡ (let u : Triangle = positive_order c.args.t.now in edge_function u.a u.b u.c)
area c = c.edge_function-area.ensures.value ∙ ap (λ (u : Triangle). edge_function u.a u.b u.c) (c.t.view_is ∙ c.positive_order-t.ensures.value)

pub floor_div-requires : goal.floor_div-requires
floor_div-requires c =
    let d = (goal.at.floor_div-requires c).After-weighted_depth-sum in
    let some = positive_area c.args.t.now (and_parts _ _ c.requires.covered).0 in
    let h : pos 0 <ℤ c.edge_function-area.result = rw (area d) some in
    omega (arith, ints)

-- the quotient, where each of its parts is what it stands for
quotient : (r n m : ℤ) (u : Triangle) (s : Point) → r ≡ floor_div (to_z w128 (of_z w128 n)) (to_z w128 (of_z w128 m)) → unsigned_abs n < 2 ^ 120 → unsigned_abs m < 2 ^ 93
    → n ≡ weighted_depth u s → m ≡ edge_function u.a u.b u.c → r ≡ depth_of u s
quotient r n m u s e hn hm f g = e ∙ ap₂ floor_div (back128 n (omega arith) ∙ f) (back128 m (omega arith) ∙ g)

-- it is a key
abbrev IsKey : ℤ → ℕ → Type 0
IsKey r k = (unsigned_abs r ≡ k) × (pos 0 ≤ℤ r) × (r ≤ℤ pos 16777215)

is_key : (r : ℤ) (u : Triangle) (s : Point) → pos 0 <ℤ edge_function u.a u.b u.c → all_accept u.a u.b u.c s ≡ true → r ≡ depth_of u s → u.qa ≤ 16777215 → u.qb ≤ 16777215 → u.qc ≤ 16777215 → IsKey r (unsigned_abs (depth_of u s))
is_key r u s some h e p q v =
    let k = key_between u s some h in
    (ap unsigned_abs e, rw e (omega (arith, ints, k)), rw e (omega (arith, ints, k)))

found : (c : After-floor_div) → IsKey c.floor_div.result (depth_key c.args.t.now (offsets_of c.args.pattern) c.args.x c.args.y c.args.k)
found c =
    let t : Triangle = c.args.t.now in
    let u : Triangle = positive_order t in
    let s : Point = sample_position (slice_index_or (offsets_of c.args.pattern) c.args.k (pos 0, pos 0)) c.args.x c.args.y in
    let p : c.sample_position.result ≡ s = c.sample_position.ensures.value ∙ ap (λ (o : ℤ × ℤ). sample_position o c.args.x c.args.y) c.offset.ensures.value in
    let split = and_parts (has_area t) (all_accept u.a u.b u.c s) c.requires.covered in
    let same = c.t.view_is ∙ c.positive_order-t.ensures.value in
    is_key c.floor_div.result u s (positive_area t split.0) split.1
    (quotient c.floor_div.result c.weighted_depth-sum.result c.edge_function-area.result u s c.floor_div.ensures c.weighted_depth-sum.ensures.bound c.edge_function-area.ensures.bound
    (c.weighted_depth-sum.ensures.value ∙ ap₂ weighted_depth c.positive_order-t.ensures.value p)
    (c.edge_function-area.ensures.value ∙ ap (λ (w : Triangle). edge_function w.a w.b w.c) same))
    (subst (λ (w : Triangle). w.qa ≤ 16777215) same c.t.invariant.qa_small)
    (subst (λ (w : Triangle). w.qb ≤ 16777215) same c.t.invariant.qb_small)
    (subst (λ (w : Triangle). w.qc ≤ 16777215) same c.t.invariant.qc_small)

pub overflow_cast-result : goal.overflow_cast-result
overflow_cast-result c =
    let k = found (goal.at.overflow_cast-result c).After-floor_div in
    (omega (arith, ints, k), omega (arith, ints, k))

pub returns : goal.returns
returns c =
    let k = found (goal.at.returns c).After-floor_div in
    let e : to_z w128 (of_z w128 c.floor_div.result) ≡ c.floor_div.result = to_z-of_z w128 c.floor_div.result (record { sfits = c.floor_div.type_inv }) in
    record { key = ap unsigned_abs e ∙ k.0; small = omega (arith, ints, k) }
