use Rattle.std.proofs.Common.{arith, ◌≡◌, ◌∙◌, ap₂, ◌≤◌, ◌^◌, ◌*◌, ℕ, ℤ, pos, ◌*ℤ◌, w64, to_z, of_z, unsigned_abs}
use Rattle.std.proofs.lemmas.Int.{ints, to_z-of_z}
use Rattle.abuf_num.specs.Division.{round_div, nearest}
use Rattle.abuf_view.specs.Screen.{signed_by}
use Rattle.abuf_view.proofs.Bounds.{screen_le}
use Rattle.abuf_view.proofs.Quotients.{part_is}
use Rattle.abuf_view.proofs.screen.screen_coordinate.Goals as goal
use Rattle.abuf_view.proofs.screen.screen_coordinate.Goals.{After-with_sign}

value : (c : After-with_sign) → c.with_sign.result ≡ round_div (pos (128 * c.args.height) *ℤ c.args.focal *ℤ c.args.x) (pos 65536 *ℤ c.args.w)
value c =
    let ex = to_z-of_z w64 c.args.x c.ranges.x in
    let ef = to_z-of_z w64 c.args.focal c.ranges.focal in
    let size = c.in-Some.ensures.value ∙ ap₂ (λ (f x : ℤ). c.args.height * unsigned_abs f * unsigned_abs x) ef ex in
    c.with_sign.ensures
    ∙ (ap₂ signed_by ex (c.nearest_coordinate.ensures.value ∙ ap₂ (λ (a b : ℕ). nearest (128 * a) (65536 * b)) size c.requires.reciprocal)
    ∙ part_is c.args.height c.args.focal c.args.x c.args.w c.requires.focal.0 c.requires.w)

bound : (c : After-with_sign) → unsigned_abs c.with_sign.result ≤ 2 ^ 44
bound c = rw (value c) (screen_le c.args.height c.args.focal c.args.x c.args.w c.requires.height c.requires.focal.0 c.requires.focal.1 c.requires.w c.requires.steep)

back : (c : After-with_sign) → to_z w64 (of_z w64 c.with_sign.result) ≡ c.with_sign.result
back c = let b = bound c in omega (arith, ints, b)

pub returns-in-Some-clause-value : goal.returns-in-Some-clause-value
returns-in-Some-clause-value c = let d = (goal.at.returns-in-Some-clause-value c).After-with_sign in back d ∙ value d

pub returns-in-Some-clause-bound : goal.returns-in-Some-clause-bound
returns-in-Some-clause-bound c = let d = (goal.at.returns-in-Some-clause-bound c).After-with_sign in rw (back d) (bound d)
