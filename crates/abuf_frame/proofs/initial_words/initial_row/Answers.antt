use Rattle.std.proofs.Common.{refl, ◌*◌, arith}
use Rattle.std.proofs.lemmas.List.{get_or-replicate}
use Rattle.abuf_frame.proofs.initial_words.initial_row.Goals as goal

pub loop-n-init : goal.loop-n-init
loop-n-init c = (refl, λ k l. get_or-replicate 128 (2 * k) 0 0 (omega arith), λ k l. absurd (omega arith))
