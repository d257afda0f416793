use Rattle.std.proofs.Common.{◌≡◌, ℕ, ◌+◌, ◌*◌, ◌<◌, length, slice_index}
use Rattle.abuf_frame.specs.Words.{mark}
use Rattle.abuf_frame.proofs.initial_words.initial_row.Given as goal

abbrev pub invariant-loop-n : goal.invariant-loop-n
invariant-loop-n l = (length l.row ≡ 128) × ((k : ℕ) → k < 64 → slice_index l.row (2 * k) ≡ 0) × ((k : ℕ) → k < l.n → slice_index l.row (2 * k + 1) ≡ mark)
