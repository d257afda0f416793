use Rattle.std.proofs.Common.{◌≡◌, ◌<◌, ℕ, true, get_or}
use Rattle.abuf_resolve.specs.ColourSum.{in_set}
use Rattle.abuf_resolve.specs.Words.{has_sample}
use Rattle.abuf_resolve.proofs.shading.pixels.same_fragments.Given as goal

abbrev pub invariant-loop-word : goal.invariant-loop-word
invariant-loop-word l = record {
  same : (j i d : ℕ) → j < 32 → in_set l.same j ≡ true → i < l.word-index → has_sample j (get_or l.words i d) ≡ has_sample l.k (get_or l.words i d);
  itself : in_set l.set l.k ≡ true → in_set l.same l.k ≡ true;
}
