use Rattle.std.proofs.Common.{arith, inl, inr, ⊎_elim}
use Rattle.abuf_num.proofs.Powers.{too_large}
use Rattle.abuf_num.proofs.size.raised.Goals as goal

pub returns-then-n-gt-MAX_RESULT : goal.returns-then-n-gt-MAX_RESULT
returns-then-n-gt-MAX_RESULT c = too_large c.args.n c.args.up (omega arith) (⊎_elim (λ large. inl large) (λ high. inr high.1) c.then-n-gt-MAX_RESULT.either)
