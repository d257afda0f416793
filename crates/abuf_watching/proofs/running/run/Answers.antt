use Rattle.std.proofs.Common.{◌≡◌}
use Rattle.abuf_watching.proofs.Told.{run_of}
use Rattle.abuf_watching.proofs.running.run.Goals as goal

pub returns : goal.returns
returns g c =
    run_of _ c.in_ok-job.job c.in_ok-projected.projected.tris c.in_ok-projected.projected.paints c.show.result c.in_ok-job.ensures.answer (c.is_one_image.ensures c.if-not-is_one_image.false) c.show.ensures
