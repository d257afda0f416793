use Rattle.std.proofs.Common.{arith, ◌≡◌, ◌∙◌, ap, ap₂, ◌≤◌, max, ℤ, ◌*ℤ◌, ◌-ℤ◌, ◌+ℤ◌, w64, to_z, of_z, unsigned_abs}
use Rattle.std.specs.Int.{w128}
use Rattle.std.proofs.lemmas.Int.{ints, to_z-of_z}
use Rattle.abuf_num.specs.Division.{floor_div}
use Rattle.abuf_view.proofs.Bounds.{cut_within}
use Rattle.abuf_view.proofs.near_plane.cut_coordinate.Goals as goal
use Rattle.abuf_view.proofs.near_plane.cut_coordinate.Goals.{After-floor_div}

quotient : (c : After-floor_div) → c.floor_div.result ≡ floor_div ((c.args.q -ℤ c.args.p) *ℤ c.args.near) c.args.span
quotient c =
    let s : to_z w128 (of_z w128 (to_z w64 (of_z w64 c.args.span))) ≡ c.args.span = omega (arith, ints) in
    let d : to_z w64 (of_z w64 c.args.q) -ℤ to_z w64 (of_z w64 c.args.p) ≡ c.args.q -ℤ c.args.p = ap₂ (λ (x y : ℤ). x -ℤ y) (to_z-of_z w64 c.args.q c.ranges.q) (to_z-of_z w64 c.args.p c.ranges.p) in
    let a = c.cut_product.ensures.value ∙ ap₂ (λ (x y : ℤ). x *ℤ y) d (to_z-of_z w64 c.args.near c.ranges.near) in
    c.floor_div.ensures ∙ ap₂ floor_div (to_z-of_z w128 c.cut_product.result (record { sfits = c.cut_product.type_inv }) ∙ a) s

bound : (c : After-floor_div) → unsigned_abs (c.args.p +ℤ c.floor_div.result) ≤ max (unsigned_abs c.args.p) (unsigned_abs c.args.q)
bound c =
    let b = cut_within c.args.p c.args.q c.args.near c.args.span (max (unsigned_abs c.args.p) (unsigned_abs c.args.q)) c.requires.span c.requires.near c.requires.order (omega arith) (omega arith) in
    rw (quotient c) (omega (arith, b))

pub overflow_cast-result : goal.overflow_cast-result
overflow_cast-result c = let b = bound (goal.at.overflow_cast-result c).After-floor_div in omega (arith, ints, b, c.requires.p, c.requires.q)

pub overflow_add-result : goal.overflow_add-result
overflow_add-result c = let b = bound (goal.at.overflow_add-result c).After-floor_div in omega (arith, ints, b, c.requires.p, c.requires.q)

pub returns : goal.returns
returns c =
    let d = (goal.at.returns c).After-floor_div in
    let b = bound d in
    let e : to_z w64 (of_z w64 (to_z w64 (of_z w64 c.args.p) +ℤ to_z w64 (of_z w64 (to_z w128 (of_z w128 c.floor_div.result))))) ≡ c.args.p +ℤ c.floor_div.result = omega (arith, ints, b, c.requires.p, c.requires.q) in
    record {
      value = e ∙ ap (λ (r : ℤ). c.args.p +ℤ r) (quotient d);
      within = rw e b;
    }
