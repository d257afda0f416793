use Rattle.std.proofs.Common.{◌∙◌, ap, sym, arith, List, ℕ}
use Rattle.std.specs.List.{fold}
use Rattle.std.proofs.lemmas.List.{take_all}
use Rattle.abuf_resolve.proofs.Folds.{with_word, folded_steps}
use Rattle.abuf_resolve.proofs.fold.composite_all.Goals as goal

pub returns : goal.returns
returns c =
    c.loop-word.invariant
    ∙ (ap (λ (xs : List ℕ). fold (with_word c.args.paints.now) c.args.under xs) (take_all c.loop-word.word-index c.args.words.now (omega arith))
    ∙ sym (folded_steps c.args.under c.args.paints.now c.args.words.now))
