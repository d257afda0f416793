use Rattle.std.proofs.Common.{◌≤◌, ◌-◌, length}
use Rattle.abuf_sequence.specs.Batches.{HaveWritten}
use Rattle.abuf_sequence.proofs.writing.draw_and_write.Given as goal

abbrev pub invariant-loop-images : goal.invariant-loop-images
invariant-loop-images g l = record {
  within : l.images ≤ length l.shots;
  written :
      HaveWritten l.plan (g.S.Subject.triangles l.scene) l.shots l.images (record { old = g.O.Sink.taken l.fn.out; new = g.O.Sink.taken l.out; faults_old = g.O.Sink.faults l.fn.out; faults_new = g.O.Sink.faults l.out });
}

abbrev pub decreases-loop-images : goal.decreases-loop-images
decreases-loop-images g l = length l.shots - l.images
