use Rattle.std.proofs.Common.{arith, ap, ℕ, ◌≤◌, ◌*◌, mul-le-mul}
use Rattle.std.proofs.lemmas.Grind.{div_ceil_times}
use Rattle.abuf_view.proofs.Tables.{covered}
use Rattle.abuf_view.proofs.point_table.chunk_bits.Goals as goal

pub returns-clause-workers : goal.returns-clause-workers
returns-clause-workers c = λ few.
    let times = div_ceil_times c.args.points c.args.threads (omega (arith, c.requires.threads)) in
    let more : c.div_ceil.result ≤ c.max-size.result = omega (arith, c.max-size.ensures) in
    let wide : c.div_ceil.result * c.args.threads ≤ c.max-size.result * c.args.threads = mul-le-mul more (omega arith) in
    let one : 1 ≤ c.max-size.result = omega (arith, c.max-size.ensures, c.requires.least) in
    covered c.args.points c.args.threads c.max-size.result c.ilog2.result c.min.result c.requires.threads.0 (omega (arith, times.0, ap (λ (q : ℕ). q * c.args.threads) c.div_ceil.ensures, wide)) one c.ilog2.ensures.next_power_gt c.min.ensures few
