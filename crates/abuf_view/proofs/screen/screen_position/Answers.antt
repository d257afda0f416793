use Rattle.std.proofs.Common.{arith, ◌≡◌, ◌∙◌, ap, ◌*◌, ℤ, pos, ◌+ℤ◌, ◌-ℤ◌, w64, to_z, of_z, SFits}
use Rattle.std.proofs.lemmas.Int.{ints, to_z-of_z}
use Rattle.abuf_view.proofs.Bounds.{eye_point_small, fits55}
use Rattle.abuf_view.proofs.screen.screen_position.Goals as goal

pub returns-clause-value : goal.returns-clause-value
returns-clause-value c =
    let small = eye_point_small c.args.near_plane.norm c.args.near_plane.w c.args.s c.requires.near_plane c.requires.bounded in
    let f1 : SFits w64 c.args.s.x = fits55 _ small.0 in
    let f2 : SFits w64 c.args.s.y = fits55 _ small.1 in
    let f3 : SFits w64 c.args.s.w = fits55 _ small.2 in
    let f4 : SFits w64 c.args.screen.focal = omega (arith, ints, c.requires.focal) in
    let vx = simp to_z-of_z at c.screen_coordinate.ensures.value in
    let vy = simp to_z-of_z at c.screen_coordinate-2.ensures.value in
    let ex : to_z w64 (of_z w64 (to_z w64 (128 * c.args.screen.width) +ℤ to_z w64 (of_z w64 c.screen_coordinate.result))) ≡ pos (128 * c.args.screen.width) +ℤ c.screen_coordinate.result = omega (arith, ints, c.screen_coordinate.ensures.bound, c.requires.width) in
    let ey : to_z w64 (of_z w64 (to_z w64 (128 * c.args.screen.height) -ℤ to_z w64 (of_z w64 c.screen_coordinate-2.result))) ≡ pos (128 * c.args.screen.height) -ℤ c.screen_coordinate-2.result = omega (arith, ints, c.screen_coordinate-2.ensures.bound, c.requires.height) in
    let px = ex ∙ ap (λ (z : ℤ). pos (128 * c.args.screen.width) +ℤ z) vx in
    let py = ey ∙ ap (λ (z : ℤ). pos (128 * c.args.screen.height) -ℤ z) vy in
    λ i. record { x = px i; y = py i }
