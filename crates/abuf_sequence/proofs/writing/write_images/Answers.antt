use Rattle.std.proofs.Common.{ℕ, ◌≡◌, ◌+◌, length, arith, subst}
use Rattle.abuf_sequence.specs.Batches.{HaveWritten}
use Rattle.abuf_sequence.proofs.Continuing.{continued, ended}
use Rattle.abuf_sequence.proofs.writing.write_images.Goals as goal

pub returns-in-Err-clause-answer : goal.returns-in-Err-clause-answer
returns-in-Err-clause-answer g c = λ plan triangles shots old faults are start.
    let l = c.loop-image.invariant in
    ended plan triangles shots c.args.before c.args.drawn.now are c.loop-image.image-index c.loop-image-test.true c.image-item.result c.image-item.is
    old _ _ faults _ _ (l.continues plan triangles shots old faults are start) (Unit {0}) c.in-Err.fault _ c.loop-image.images c.after.ensures l.count c.in-Err.ensures.answer

pub loop-image-preserved : goal.loop-image-preserved
loop-image-preserved g c =
    let l = c.loop-image.invariant in
    record {
      count = omega (arith, l.count);
      continues = λ plan triangles shots old faults are start.
          continued plan triangles shots c.args.before c.args.drawn.now are c.loop-image.image-index c.loop-image-test.true c.image-item.result c.image-item.is
          old _ _ faults _ _ (l.continues plan triangles shots old faults are start) (Unit {0}) c.in-Ok.ensures.later c.in-Ok.field-0 c.in-Ok.ensures.answer;
      later = omega (arith, l.later, c.in-Ok.ensures.later);
    }

pub returns-clause-answer : goal.returns-clause-answer
returns-clause-answer g c = λ plan triangles shots old faults are start.
    let l = c.loop-image.invariant in
    let all : c.loop-image.image-index ≡ length c.args.drawn.now = omega (arith, c.loop-image-test.false, c.loop-image.auto.image-index-end) in
    subst (λ (n : ℕ). HaveWritten plan triangles shots (c.args.before + n)
    (record { old = old; new = g.O.Sink.taken c.loop-image.out; faults_old = faults; faults_new = g.O.Sink.faults c.loop-image.out })) all (l.continues plan triangles shots old faults are start)
