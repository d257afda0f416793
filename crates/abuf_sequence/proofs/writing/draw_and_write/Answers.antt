use Rattle.std.proofs.Common.{ℕ, ◌≡◌, ◌+◌, ◌-◌, ◌≤◌, List, length, subst, ap, ◌∙◌, arith}
use Rattle.std.proofs.lemmas.Result.{err_from_is_err_and}
use Rattle.abuf_sequence.specs.declared.job.Drawn.{Drawn}
use Rattle.abuf_sequence.specs.Batches.{AreDrawnFrom, HaveWritten}
use Rattle.abuf_sequence.proofs.Continuing.{drawn_count, drawn_from}
use Rattle.abuf_sequence.proofs.writing.draw_and_write.Goals as goal

pub returns-in_err-write_images-in-Ok-clause-answer : goal.returns-in_err-write_images-in-Ok-clause-answer
returns-in_err-write_images-in-Ok-clause-answer g c =
    let plan = c.args.plan.now in
    let triangles = g.S.Subject.triangles c.args.scene.now in
    let shots = c.args.shots.now in
    let k : ℕ = c.loop-images.images in
    let n : ℕ = c.min-end.result - k in
    let within : k + n ≤ length shots = omega (arith, c.min-end.ensures, c.loop-images-test.true) in
    let are : AreDrawnFrom plan triangles shots k c.in-Ok.drawn.items = drawn_from plan triangles shots k n within c.in-Ok.drawn.items c.in-Ok.ensures in
    let p = err_from_is_err_and c.from_residual.result c.from_residual.ensures.1 in
    rw (p.1, p.2) (c.in_err-write_images-in-Ok.ensures.answer plan triangles shots (g.O.Sink.taken c.args.out.now) (g.O.Sink.faults c.args.out.now) (rw c.deref.ensures.value are) c.loop-images.invariant.written)

pub loop-images-preserved : goal.loop-images-preserved
loop-images-preserved g c =
    let plan = c.args.plan.now in
    let triangles = g.S.Subject.triangles c.args.scene.now in
    let shots = c.args.shots.now in
    let k : ℕ = c.loop-images.images in
    let n : ℕ = c.min-end.result - k in
    let within : k + n ≤ length shots = omega (arith, c.min-end.ensures, c.loop-images-test.true) in
    let are : AreDrawnFrom plan triangles shots k c.in-Ok.drawn.items = drawn_from plan triangles shots k n within c.in-Ok.drawn.items c.in-Ok.ensures in
    let drawn = c.deref.result.now in
    let count : length drawn ≡ n = ap (λ (ds : List Drawn). length ds) c.deref.ensures.value ∙ drawn_count plan triangles shots k n within c.in-Ok.drawn.items c.in-Ok.ensures in
    let all : k + length drawn ≡ c.min-end.result = omega (arith, count, c.min-end.ensures, c.loop-images-test.true) in
    record {
      within = omega (arith, c.min-end.ensures);
      written =
          subst
          (λ (m : ℕ). HaveWritten plan triangles shots m
          (record { old = g.O.Sink.taken c.args.out.now; new = g.O.Sink.taken c.write_images.new.out; faults_old = g.O.Sink.faults c.args.out.now; faults_new = g.O.Sink.faults c.write_images.new.out }))
          all (c.in_ok-write_images-in-Ok.ensures.answer plan triangles shots (g.O.Sink.taken c.args.out.now) (g.O.Sink.faults c.args.out.now) (rw c.deref.ensures.value are) c.loop-images.invariant.written);
    }
