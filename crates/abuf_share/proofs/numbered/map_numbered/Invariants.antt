use Rattle.std.proofs.Common.{◌≡◌, ◌+◌, ◌*◌, ◌^◌, ◌<◌, vec_len, All, IfOk}
use Rattle.abuf_share.specs.Desk.{EachOnceIfWhole, endowment}
use Rattle.abuf_share.specs.Numbered.{AreOf, HasCalled, HasPassed}
use Rattle.abuf_share.specs.declared.desk.TheConstants.{MAX_NUMBERS}
use Rattle.abuf_share.proofs.numbered.map_numbered.Given as goal

abbrev pub invariant-loop-worker : goal.invariant-loop-worker
invariant-loop-worker g l = record {
  table : l.turn.table ≡ l.desk.table;
  whole : endowment l.turn.view + vec_len l.workers * (MAX_NUMBERS + 1) ≡ 2 ^ 60;
  once : EachOnceIfWhole l.turn.view;
  passed : vec_len l.workers < vec_len l.initial.workers → HasPassed l.desk.limit l.turn.view.drawn;
  are : AreOf g.F.Fn l.f l.desk.limit l.turn.view.drawn l.entries.items;
  each : All (λ worker. IfOk worker (λ done. HasCalled g.F.Fn l.f l.desk done)) l.workers.items;
}

abbrev pub decreases-loop-worker : goal.decreases-loop-worker
decreases-loop-worker g l = vec_len l.workers
