use Rattle.std.proofs.Common.{◌≡◌, ◌+◌, ◌^◌, ◌<◌, ◌≤◌, ℕ, pos, neg_ℤ, get_or, length, unsigned_abs}
use Rattle.abuf_raster.specs.Samples.{offsets_of}
use Rattle.abuf_raster.specs.Values.{sample_change}
use Rattle.abuf_raster.proofs.setup.limits_from.Given as goal

abbrev pub invariant-loop-k : goal.invariant-loop-k
invariant-loop-k l = (length l.limits ≡ 8)
    × ((j : ℕ) → j < l.k → l.fn.from + j < length (offsets_of l.fn.pattern) → (get_or l.limits j (pos 0) ≡ neg_ℤ (sample_change l.fn.a l.fn.b (offsets_of l.fn.pattern) (l.fn.from + j)))
    × (unsigned_abs (neg_ℤ (sample_change l.fn.a l.fn.b (offsets_of l.fn.pattern) (l.fn.from + j))) ≤ 2 ^ 54))
