use Rattle.std.proofs.Common.{◌∙◌, ◌*◌, ℕ, ap, ap₂, sym}
use Rattle.abuf_view.specs.Camera.{Camera}
use Rattle.abuf_cli.specs.Job.{Job}
use Rattle.abuf_top.proofs.image.image_from.Goals as goal

pub image_bytes-requires-clause-pixels : goal.image_bytes-requires-clause-pixels
image_bytes-requires-clause-pixels c =
    c.requires.pixels
    ∙ sym (ap₂ (λ (a b : ℕ). a * b)
    (c.width.ensures ∙ ap (λ (k : Camera). k.width) (c.camera.ensures.value ∙ ap (λ (j : Job). j.camera) c.job-job.ensures))
    (c.height.ensures ∙ ap (λ (k : Camera). k.height) (c.camera-2.ensures.value ∙ ap (λ (j : Job). j.camera) c.job-job.ensures)))
