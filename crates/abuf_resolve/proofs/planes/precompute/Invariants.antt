use Rattle.std.proofs.Common.{◌≡◌, ◌≤◌, take, map, All}
use Rattle.abuf_num.specs.declared.limits.TheConstants.{MAX_DEPTH}
use Rattle.abuf_resolve.specs.Precomputed.{depth_range}
use Rattle.abuf_resolve.proofs.planes.precompute.Given as goal

abbrev pub invariant-loop-t : goal.invariant-loop-t
invariant-loop-t l = record {
  planes : l.planes.items ≡ take l.t-index l.tris;
  ranges : l.ranges.items ≡ map depth_range (take l.t-index l.tris);
  small : All (λ range. range.high ≤ MAX_DEPTH) l.ranges.items;
}
