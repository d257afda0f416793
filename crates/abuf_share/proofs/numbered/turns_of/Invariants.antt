use Rattle.std.proofs.Common.{◌≡◌, ◌+◌, ◌*◌, ◌^◌, [], vec_len, All}
use Rattle.abuf_share.specs.Numbered.{IsFresh}
use Rattle.abuf_share.specs.declared.desk.TheConstants.{MAX_NUMBERS}
use Rattle.abuf_share.proofs.numbered.turns_of.Given as goal

abbrev pub invariant-loop-worker : goal.invariant-loop-worker
invariant-loop-worker l = record {
  table : l.turn.table ≡ l.fn.turn.table;
  drawn : l.turn.view.drawn ≡ [];
  credit : l.turn.view.credit + l._worker * (MAX_NUMBERS + 1) ≡ 2 ^ 60;
  len : vec_len l.turns ≡ l._worker;
  each : All (IsFresh l.desk) l.turns.items;
}
