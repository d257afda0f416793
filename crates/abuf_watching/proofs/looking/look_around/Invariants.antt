use Rattle.std.proofs.Common.{◌≡◌, length}
use Rattle.abuf_watching.specs.declared.looking.TheConstants.{ROOM}
use Rattle.abuf_watching.proofs.Around.{Looked}
use Rattle.abuf_watching.proofs.looking.look_around.Given as goal

abbrev pub invariant-loop-turn : goal.invariant-loop-turn
invariant-loop-turn l = record {
  same : l.pass.frame ≡ l.fn.pass.frame;
  room : length l.out ≡ ROOM;
  looked : Looked ROOM l.fn.places l.fn.pass.view l.pass.view l.looks l.turn;
}
