use Rattle.std.proofs.Common.{◌≡◌, ◌≤◌, ◌+◌, ℕ, List, Option}
use Rattle.abuf_scene.specs.declared.triangles.Triangle.{Triangle}
use Rattle.abuf_sequence.specs.declared.path.Shot.{Shot}
use Rattle.abuf_sequence.specs.declared.plan.Plan.{Plan}
use Rattle.abuf_sequence.specs.Batches.{AreDrawnFrom, HaveWritten}
use Rattle.abuf_sequence.proofs.writing.write_images.Given as goal

abbrev pub invariant-loop-image : goal.invariant-loop-image
invariant-loop-image g l = record {
  count : l.images ≡ l.before + l.image-index;
  continues :
      (plan : Plan) (triangles : List Triangle) (shots : List Shot) (old : Option (List ℕ)) (faults : ℕ) → AreDrawnFrom plan triangles shots l.before l.drawn
      → HaveWritten plan triangles shots l.before (record { old = old; new = g.O.Sink.taken l.fn.out; faults_old = faults; faults_new = g.O.Sink.faults l.fn.out })
      → HaveWritten plan triangles shots (l.before + l.image-index) (record { old = old; new = g.O.Sink.taken l.out; faults_old = faults; faults_new = g.O.Sink.faults l.out });
  later : g.O.Sink.faults l.fn.out ≤ g.O.Sink.faults l.out;
}
