use Rattle.std.proofs.Common.{arith, rules, ◌≡◌, ◌∙◌, ap₂, pos, ◌*ℤ◌, ◌≤ℤ◌, SFits, w64, to_z, of_z}
use Rattle.std.specs.Int.{w128}
use Rattle.std.proofs.lemmas.Int.{ints, to_z-of_z}
use Rattle.abuf_num.specs.Division.{floor_div}
use Rattle.abuf_view.proofs.Bounds.{depth_bound, fits55}
use Rattle.abuf_view.proofs.screen.wide_depth.Goals as goal
use Rattle.abuf_view.proofs.screen.wide_depth.Goals.{After-floor_div}

quotient : (c : After-floor_div) → c.floor_div.result ≡ floor_div (pos 16777215 *ℤ c.args.near_plane.w) c.args.s.w
quotient c =
    let f1 : SFits w64 c.args.near_plane.w = fits55 _ (omega (arith, c.requires.near_plane.w_high)) in
    let f3 : SFits w64 c.args.s.w = search rules in
    let f2 : SFits w128 c.product.result = record { sfits = c.product.type_inv } in
    let p = simp to_z-of_z at c.product.ensures in
    let w : to_z w128 (of_z w128 (to_z w64 (of_z w64 c.args.s.w))) ≡ c.args.s.w = omega (arith, ints, f3) in
    c.floor_div.ensures ∙ ap₂ floor_div (to_z-of_z w128 c.product.result f2 ∙ p) w

bounds : (c : After-floor_div) → (pos 0 ≤ℤ c.floor_div.result) × (c.floor_div.result ≤ℤ pos 16777215)
bounds c = rw (quotient c) (depth_bound c.args.near_plane.w c.args.s.w c.requires.near_plane.w_some c.requires.inside)

pub overflow_cast-result : goal.overflow_cast-result
overflow_cast-result c = omega (arith, ints, bounds (goal.at.overflow_cast-result c).After-floor_div)

pub returns-clause-small : goal.returns-clause-small
returns-clause-small c = omega (arith, ints, bounds (goal.at.returns-clause-small c).After-floor_div)
