use Rattle.std.proofs.Common.{◌≡◌, ℕ, ◌+◌, ◌<◌, ◌≤◌, length, slice_index}
use Rattle.abuf_frame.specs.Lanes.{head_or_end}
use Rattle.abuf_frame.proofs.closed.lanes.heads.Given as goal

abbrev pub invariant-loop-k : goal.invariant-loop-k
invariant-loop-k l = (length l.at ≡ 8) × ((j : ℕ) → j < l.k → slice_index l.at j ≡ head_or_end l.words l.fn.pixels (l.fn.pixel + j)) × ((j : ℕ) → l.k ≤ j → slice_index l.at j ≡ 0)
