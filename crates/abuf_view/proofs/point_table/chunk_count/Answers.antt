use Rattle.std.proofs.Common.{arith, ap, ℕ, ◌+◌, ◌≤◌, ◌*◌, mul-le-mul}
use Rattle.std.proofs.lemmas.Grind.{div_ceil_times}
use Rattle.abuf_view.proofs.point_table.chunk_count.Goals as goal

pub returns-clause-some : goal.returns-clause-some
returns-clause-some c = λ n less.
    let size = c.args.size in
    let times = div_ceil_times c.args.points size (omega (arith, c.requires)) in
    let next : n + 1 ≤ c.div_ceil.result = omega (arith, less, c.min.ensures) in
    let upto : (n + 1) * size ≤ c.div_ceil.result * size = mul-le-mul next (omega arith) in
    omega (arith, times.1, ap (λ (q : ℕ). q * size) c.div_ceil.ensures, upto)
