use Rattle.std.proofs.Common.{arith, ◌≡◌, ◌∙◌, ap, ap₂, ◌≤◌, ◌^◌, ◌*◌, ℤ, pos, ◌*ℤ◌, w64, to_z, of_z, unsigned_abs}
use Rattle.std.specs.Int.{w128}
use Rattle.std.proofs.lemmas.Int.{ints, to_z-of_z}
use Rattle.abuf_num.specs.Division.{round_div}
use Rattle.abuf_view.proofs.Bounds.{screen_le}
use Rattle.abuf_view.proofs.screen.wide_coordinate.Goals as goal
use Rattle.abuf_view.proofs.screen.wide_coordinate.Goals.{After-round_div}

quotient : (c : After-round_div) → c.round_div.result ≡ round_div (pos (128 * c.args.height) *ℤ c.args.focal *ℤ c.args.x) (pos 65536 *ℤ c.args.w)
quotient c =
    let f = to_z-of_z w64 c.args.focal c.ranges.focal in
    let x = to_z-of_z w64 c.args.x c.ranges.x in
    let a = c.wide_size.ensures.value ∙ ap₂ (λ (f x : ℤ). pos (128 * c.args.height) *ℤ f *ℤ x) f x in
    let b = c.product.ensures ∙ ap (λ (x : ℤ). pos 65536 *ℤ x) (to_z-of_z w64 c.args.w c.ranges.w) in
    c.round_div.ensures
    ∙ ap₂ round_div (to_z-of_z w128 c.wide_size.result (record { sfits = c.wide_size.type_inv }) ∙ a) (to_z-of_z w128 c.product.result (record { sfits = c.product.type_inv }) ∙ b)

bound : (c : After-round_div) → unsigned_abs c.round_div.result ≤ 2 ^ 44
bound c = rw (quotient c) (screen_le c.args.height c.args.focal c.args.x c.args.w c.requires.height c.requires.focal.0 c.requires.focal.1 c.requires.w c.requires.steep)

pub overflow_cast-result : goal.overflow_cast-result
overflow_cast-result c = let b = bound (goal.at.overflow_cast-result c).After-round_div in omega (arith, ints, b)

pub returns : goal.returns
returns c =
    let d = (goal.at.returns c).After-round_div in
    let b = bound d in
    let e : to_z w64 (of_z w64 (to_z w128 (of_z w128 c.round_div.result))) ≡ c.round_div.result = omega (arith, ints, b) in
    record { value = e ∙ quotient d; bound = rw e b }
