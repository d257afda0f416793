use Rattle.std.proofs.Common.{◌≡◌, ◌∙◌, ◌-◌, ◌*◌, ◌%◌, ◌^◌, ℕ, not, ap, sym, arith}
use Rattle.std.proofs.lemmas.Nat.{one_shl}
use Rattle.abuf_resolve.specs.ColourSum.{in_set, sums_where}
use Rattle.abuf_resolve.proofs.Sets.{none_yet}
use Rattle.abuf_resolve.proofs.colour_sum.ColourSum.new.Goals as goal

pub returns-clause-holds : goal.returns-clause-holds
returns-clause-holds c = λ colours.
    let n = c.args.samples in
    let all : (1 * 2 ^ n) % 2 ^ 32 ≡ 2 ^ n = one_shl n 32 (omega arith) in
    sym (ap (λ (m : ℕ). sums_where (λ k. not (in_set (m - 1) k)) colours n) all ∙ none_yet colours n)
