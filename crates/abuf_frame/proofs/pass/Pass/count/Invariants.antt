use Rattle.std.proofs.Common.{◌≡◌, ◌≤◌, ◌^◌, length}
use Rattle.abuf_frame.specs.Views.{Below, endowment}
use Rattle.abuf_frame.specs.Steps.{having_seen}
use Rattle.abuf_frame.proofs.pass.Pass.count.Given as goal

abbrev pub ghosts-count_at : goal.ghosts-count_at
ghosts-count_at a = record {
  after = λ found. having_seen found a.seat.now.me.0;
  shows = λ found. (a.seat.now.me.0.seen ≤ found) × Below found a.seat.now.me.0.entries × Below found a.seat.now.me.0.told × (endowment a.seat.now.me.0 ≡ 2 ^ 60 → found ≡ length a.seat.now.me.0.entries);
}
