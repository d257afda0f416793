use Rattle.abuf_frame.specs.Steps.{moved}
use Rattle.abuf_frame.specs.Stages.{swapped}
use Rattle.abuf_frame.proofs.pass.Pass.swap_head.Given as goal

abbrev pub ghosts-swap_at : goal.ghosts-swap_at
ghosts-swap_at a = record { after = λ found. moved a.number (swapped found) a.seat.now.me.0; shows = λ _. Unit {0} }
