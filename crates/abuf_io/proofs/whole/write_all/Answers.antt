use Rattle.std.proofs.Common.{◌≤◌, length, arith, take, drop}
use Rattle.std.proofs.Math.ListN.{length-drop}
use Rattle.std.proofs.lemmas.List.{take_rest}
use Rattle.std.specs.Io.KnownBytes.{Appends}
use Rattle.abuf_io.proofs.Parts.{Appends-part}
use Rattle.abuf_io.proofs.whole.write_all.Goals as goal

pub loop-done-preserved : goal.loop-done-preserved
loop-done-preserved g c =
    let done = c.loop-done.done in
    let bytes = c.args.bytes.now in
    let within : c.in-Ok.count ≤ length (drop done bytes) = rw (← take_rest bytes done) c.in-Ok.ensures.bound in
    let wrote : Appends (g.O.Sink.taken c.loop-done.sink) (g.O.Sink.taken c.write.new.self) (take c.in-Ok.count (drop done bytes)) =
    rw (← take_rest bytes done) c.in-Ok.ensures.bytes in
    (omega (arith, length-drop done bytes), omega arith, Appends-part _ _ _ done c.in-Ok.count bytes c.loop-done.invariant.2 wrote)
