use Rattle.abuf_frame.specs.Steps.{moved}
use Rattle.abuf_frame.specs.Stages.{filled}
use Rattle.abuf_frame.proofs.pass.Pass.fill.Given as goal

abbrev pub ghosts-fill_at : goal.ghosts-fill_at
ghosts-fill_at a = record { after = λ found. moved a.number (filled a._pixel a.payload) a.seat.now.me.0; shows = λ _. Unit {0} }
