use Rattle.std.proofs.Common.{◌+◌, ◌^◌, ◌≤◌, arith}
use Rattle.std.proofs.lemmas.Int.{ints}
use Rattle.std.proofs.lemmas.Nat.{mul-le}
use Rattle.abuf_raster.proofs.plane.Coefficients.spread.Goals as goal

pub overflow_mul-result : goal.overflow_mul-result
overflow_mul-result c =
    let sum : c.unsigned_abs.result + c.unsigned_abs-2.result ≤ 2 ^ 53 = omega (arith, ints, c.args.self.now.flat) in
    omega (arith, mul-le (c.unsigned_abs.result + c.unsigned_abs-2.result) c.args.reach (2 ^ 53) 128 sum (omega arith))

pub returns-clause-small : goal.returns-clause-small
returns-clause-small c =
    let sum : c.unsigned_abs.result + c.unsigned_abs-2.result ≤ 2 ^ 53 = omega (arith, ints, c.args.self.now.flat) in
    omega (arith, mul-le (c.unsigned_abs.result + c.unsigned_abs-2.result) c.args.reach (2 ^ 53) 128 sum (omega arith))
