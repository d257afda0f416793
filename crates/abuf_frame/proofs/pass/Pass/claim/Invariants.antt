use Rattle.std.proofs.Common.{◌+◌, ◌^◌, ◌≤◌}
use Rattle.abuf_frame.specs.Steps.{claimed}
use Rattle.abuf_frame.specs.Views.{Below}
use Rattle.abuf_frame.proofs.pass.Pass.claim.Given as goal

abbrev pub ghosts-claim_at : goal.ghosts-claim_at
ghosts-claim_at a = record { after = λ found. claimed a.words.now.key.nodes found a.count a.seat.now.me.0; shows = λ found. (found + a.count ≤ 2 ^ 60) × Below found a.seat.now.me.0.entries }
