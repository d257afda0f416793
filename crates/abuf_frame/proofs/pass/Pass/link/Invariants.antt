use Rattle.std.proofs.Common.{◌≡◌}
use Rattle.abuf_frame.specs.Steps.{moved}
use Rattle.abuf_frame.specs.Stages.{linked}
use Rattle.abuf_num.specs.Counting.{times}
use Rattle.abuf_frame.specs.Views.{numbers}
use Rattle.abuf_frame.proofs.pass.Pass.link.Given as goal

abbrev pub ghosts-link_at : goal.ghosts-link_at
ghosts-link_at a = record { after = λ found. moved a.number linked a.seat.now.me.0; shows = λ _. times a.number (numbers a.seat.now.me.0) ≡ 1 }
