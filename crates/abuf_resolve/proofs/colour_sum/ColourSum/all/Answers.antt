use Rattle.std.proofs.Common.{◌∙◌, ℕ, not, ap, ◌==◌}
use Rattle.std.proofs.lemmas.Nat.Bits.{bit_at-zero}
use Rattle.abuf_resolve.specs.ColourSum.{in_set}
use Rattle.abuf_resolve.proofs.Sets.{whole}
use Rattle.abuf_resolve.proofs.colour_sum.ColourSum.all.Goals as goal

pub returns-clause-value : goal.returns-clause-value
returns-clause-value c = λ colours holds.
    holds ∙ whole (λ k. not (in_set c.args.self.rest k)) colours c.args.self.samples
    (λ k l. ap (λ (r : ℕ). not (in_set r k)) c.requires.all ∙ ap (λ (b : ℕ). not (b == 1)) (bit_at-zero k))
