use Rattle.abuf_num.proofs.Estimates.{is_estimate, quotient_up, quotient_same}
use Rattle.std.proofs.Common.{◌*◌, ◌/◌, ◌^◌}
use Rattle.abuf_num.proofs.reciprocal.Reciprocal.quotient.Goals as goal

pub overflow_sub-rest : goal.overflow_sub-rest
overflow_sub-rest c = let s = c.args.self.now in (is_estimate c.args.n s.divisor s.inverse s.some c.ranges.n.fits s.is).low

pub returns-then-rest-self : goal.returns-then-rest-self
returns-then-rest-self c = let s = c.args.self.now in quotient_up c.args.n s.divisor (c.args.n * s.inverse / 2 ^ 64) s.some (is_estimate c.args.n s.divisor s.inverse s.some c.ranges.n.fits s.is) c.if-rest-self.true

pub returns-else-rest-self : goal.returns-else-rest-self
returns-else-rest-self c = let s = c.args.self.now in quotient_same c.args.n s.divisor (c.args.n * s.inverse / 2 ^ 64) s.some (is_estimate c.args.n s.divisor s.inverse s.some c.ranges.n.fits s.is) c.if-rest-self.false
