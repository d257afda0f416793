use Rattle.std.proofs.Common.{◌≡◌, ℕ, ◌+◌, length, ap, arith}
use Rattle.abuf_raster.specs.Samples.{offsets_of}
use Rattle.abuf_raster.specs.Hits.{all_fragments}
use Rattle.abuf_fan.proofs.Counted.{most_next, most_done}
use Rattle.abuf_fan.proofs.bound.sum_of.Goals as goal

pub overflow_add-sum : goal.overflow_add-sum
overflow_add-sum c = let s = c.loop-t.invariant.small in let m = c.max_of.ensures.few in let a = c.region_law.ensures.not_large in let f = c.from-sum.ensures in let n = c.requires in omega (arith, s, m, a, f, n)

pub loop-t-init : goal.loop-t-init
loop-t-init c = record {
  bound = λ first. let z : first ≡ first + 0 = omega arith in let e = ap (λ (k : ℕ). length (all_fragments c.args.tris.now k (offsets_of c.args.pattern) c.args.region)) z in omega (arith, e);
  small = omega arith;
}

pub loop-t-preserved : goal.loop-t-preserved
loop-t-preserved c =
    let m = c.max_of.ensures.few in let a = c.region_law.ensures.not_large in let f = c.from-sum.ensures in let s = c.loop-t.invariant.small in
    record {
      bound = λ first.
          let n = most_next (offsets_of c.args.pattern) c.args.region c.args.tris.now c.loop-t.t-index c.t-item.result c.max_of.result c.loop-t-test.true c.t-item.is c.max_of.ensures.bound first in
          let b = c.loop-t.invariant.bound first in omega (arith, n, b, f);
      small = omega (arith, m, a, f, s);
    }

pub returns-clause-bound : goal.returns-clause-bound
returns-clause-bound c = λ first. let b = c.loop-t.invariant.bound first in let n = most_done (offsets_of c.args.pattern) c.args.region c.args.tris.now c.loop-t.t-index (first + c.loop-t.t-index) c.loop-t-test.false in omega (arith, b, n)

pub returns-clause-small : goal.returns-clause-small
returns-clause-small c = let s = c.loop-t.invariant.small in let e = c.loop-t.auto.t-index-end in omega (arith, s, e)
