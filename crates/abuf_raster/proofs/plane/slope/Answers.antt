use Rattle.std.proofs.Common.{◌∙◌, ◌^◌, ◌+ℤ◌, arith, lit≤}
use Rattle.abuf_raster.proofs.Bounds.{plus64, weighted64}
use Rattle.abuf_raster.proofs.plane.slope.Goals as goal

pub overflow_add-result : goal.overflow_add-result
overflow_add-result c = (plus64 c.weighted.result c.weighted-2.result c.weighted.result (2 ^ 54) c.weighted.ensures.bound c.weighted-2.ensures.bound c.weighted.ensures.bound (lit≤ tt)).0

pub overflow_add-result-2 : goal.overflow_add-result-2
overflow_add-result-2 c = (plus64 c.weighted.result c.weighted-2.result c.weighted-3.result (2 ^ 54) c.weighted.ensures.bound c.weighted-2.ensures.bound c.weighted-3.ensures.bound (lit≤ tt)).1

pub returns-clause-value : goal.returns-clause-value
returns-clause-value c =
    let a = weighted64 c.weighted.result c.difference.result c.args.b c.args.c c.args.qa c.requires.small.1 c.requires.small.2 c.difference.ensures.value c.weighted.ensures.value in
    let b = weighted64 c.weighted-2.result c.difference-2.result c.args.c c.args.a c.args.qb c.requires.small.2 c.requires.small.0 c.difference-2.ensures.value c.weighted-2.ensures.value in
    let d = weighted64 c.weighted-3.result c.difference-3.result c.args.a c.args.b c.args.qc c.requires.small.0 c.requires.small.1 c.difference-3.ensures.value c.weighted-3.ensures.value in
    (plus64 c.weighted.result c.weighted-2.result c.weighted-3.result (2 ^ 54) c.weighted.ensures.bound c.weighted-2.ensures.bound c.weighted-3.ensures.bound (lit≤ tt)).2
    ∙ (λ i. a i +ℤ b i +ℤ d i)

pub returns-clause-bound : goal.returns-clause-bound
returns-clause-bound c =
    let h = (plus64 c.weighted.result c.weighted-2.result c.weighted-3.result (2 ^ 54) c.weighted.ensures.bound c.weighted-2.ensures.bound c.weighted-3.ensures.bound (lit≤ tt)).3 in
    omega (arith, h)
