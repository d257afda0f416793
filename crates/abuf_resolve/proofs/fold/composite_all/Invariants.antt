use Rattle.std.proofs.Common.{◌≡◌, take}
use Rattle.std.specs.List.{fold}
use Rattle.abuf_resolve.proofs.Folds.{with_word}
use Rattle.abuf_resolve.proofs.fold.composite_all.Given as goal

abbrev pub invariant-loop-word : goal.invariant-loop-word
invariant-loop-word l = l.colour ≡ fold (with_word l.paints) l.fn.under (take l.word-index l.words)
