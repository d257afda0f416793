use Rattle.std.proofs.Common.{◌*◌}
use Rattle.abuf_frame.specs.Words.{IsInitial}
use Rattle.abuf_frame.proofs.initial_words.initial_vec.Given as goal

abbrev pub invariant-loop : goal.invariant-loop
invariant-loop l = IsInitial l.fn.pixels (64 * l.counter) l.words.items
