use Rattle.std.proofs.Common.{ℕ, ◌≡◌, ◌+◌, ◌<◌, ◌≤◌, All, length}
use Rattle.abuf_share.specs.Desk.{endowment}
use Rattle.abuf_share.specs.Numbered.{AreOf}
use Rattle.abuf_share.specs.declared.desk.TheConstants.{MAX_NUMBERS}
use Rattle.abuf_share.proofs.numbered.call_each.Given as goal

abbrev pub invariant-loop-number : goal.invariant-loop-number
invariant-loop-number g l = record {
  table : l.turn.table ≡ l.desk.table;
  whole : endowment l.turn.view ≡ MAX_NUMBERS + 1;
  above : (m : ℕ) → All (λ n. n < m) l.turn.view.drawn → length l.turn.view.drawn ≤ m;
  low : length l.turn.view.drawn ≤ l.desk.limit;
  are : AreOf g.F.Fn l.f l.desk.limit l.turn.view.drawn l.entries.items;
}

abbrev pub decreases-loop-number : goal.decreases-loop-number
decreases-loop-number g l = l.turn.view.credit
