use Rattle.std.proofs.Common.{◌≡◌, ℕ, ◌-◌, ◌<◌, [], false, true, slice_index_or, take}
use Rattle.abuf_peel.specs.Taking.{marked_by, no_word, painted_by}
use Rattle.abuf_peel.specs.Rewrites.{Rewrites}
use Rattle.abuf_peel.proofs.offering.Samples.take.Given as goal

abbrev pub invariant-loop-i : goal.invariant-loop-i
invariant-loop-i l = record {
  marks : Rewrites (λ j from. marked_by (take l.count (slice_index_or l.best j [])) from) 0 l.i l.fn.from l.from;
  colours : Rewrites (λ j under. painted_by l.drawn.paints.now (take l.count (slice_index_or l.best j [])) under) 0 l.i l.fn.colours l.colours;
  none : l.any ≡ false → (j : ℕ) → j < l.i → slice_index_or (slice_index_or l.best j []) (l.count - 1) 0 ≡ no_word;
  some : l.any ≡ true → (j : ℕ) × (j < l.i) × (slice_index_or (slice_index_or l.best j []) (l.count - 1) 0 < no_word);
}
