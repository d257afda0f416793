use Rattle.std.proofs.Common.{◌≡◌, ◌<◌, ◌≤◌, ℕ, false, length, slice_index}
use Rattle.abuf_resolve.specs.Words.{hides}
use Rattle.abuf_resolve.proofs.for_users.first_seen.Given as goal

abbrev pub invariant-loop-i : goal.invariant-loop-i
invariant-loop-i l = (k : ℕ) → l.i ≤ k → k < length l.words → hides l.paints (slice_index l.words k) ≡ false
