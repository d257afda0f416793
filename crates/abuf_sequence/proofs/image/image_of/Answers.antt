use Rattle.std.proofs.Common.{length, ap, ◌∙◌}
use Rattle.abuf_sequence.proofs.Drawing.{pixels}
use Rattle.abuf_sequence.proofs.image.image_of.Goals as goal

pub image_bytes-requires-clause-pixels : goal.image_bytes-requires-clause-pixels
image_bytes-requires-clause-pixels g c =
    ap length (c.as_slice.ensures ∙ c.in_ok-sums.ensures.are) ∙ pixels c.args.plan.now (g.S.Subject.triangles c.args.scene.now) c.args.job.shot
