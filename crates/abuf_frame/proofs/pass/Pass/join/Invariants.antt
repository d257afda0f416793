use Rattle.std.proofs.Common.{◌≤◌, ◌^◌}
use Rattle.abuf_frame.specs.Views.{endowment}
use Rattle.abuf_frame.proofs.pass.Pass.join.Given as goal

abbrev pub ghosts-count_at : goal.ghosts-count_at
ghosts-count_at a = record { after = λ _. a.seat.now.me.0; shows = λ _. endowment a.seat.now.me.0 ≤ 2 ^ 60 }
