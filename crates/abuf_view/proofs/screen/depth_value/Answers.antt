use Rattle.std.proofs.Common.{arith, ◌≡◌, ◌∙◌, ap₂, ◌≤◌, ◌*◌, ◌/◌, ℕ, unsigned_abs}
use Rattle.std.proofs.lemmas.Int.{ints}
use Rattle.abuf_view.proofs.Quotients.{depth_le}
use Rattle.abuf_view.proofs.screen.depth_value.Goals as goal
use Rattle.abuf_view.proofs.screen.depth_value.Goals.{After-quotient}

small : (c : After-quotient) → c.quotient.result ≤ 16777215
small c =
    let m : c.unsigned_abs-then-unsigned_abs-lt-SHORT_PLANE.result ≡ unsigned_abs c.args.near_plane.w = omega (arith, ints, c.unsigned_abs-then-unsigned_abs-lt-SHORT_PLANE.ensures.value, c.requires.near_plane.w_high) in
    rw (c.quotient.ensures ∙ ap₂ (λ (m w : ℕ). 16777215 * m / w) m c.requires.reciprocal) (depth_le c.args.near_plane.w c.args.s.w c.requires.near_plane.w_some c.requires.inside)

pub overflow_cast-result : goal.overflow_cast-result
overflow_cast-result c = omega (arith, small (goal.at.overflow_cast-result c).After-quotient)

pub returns-then-unsigned_abs-lt-SHORT_PLANE-clause-small : goal.returns-then-unsigned_abs-lt-SHORT_PLANE-clause-small
returns-then-unsigned_abs-lt-SHORT_PLANE-clause-small c = small (goal.at.returns-then-unsigned_abs-lt-SHORT_PLANE-clause-small c).After-quotient
