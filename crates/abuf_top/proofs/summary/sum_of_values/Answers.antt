use Rattle.std.proofs.Common.{◌≡◌, ◌∙◌, ◌+◌, ◌*◌, List, ℕ, length, sum, ap, ap₂, sym}
use Rattle.abuf_raster.specs.Region.{Region}
use Rattle.abuf_cli.specs.Job.{Job}
use Rattle.abuf_pam.specs.Image.{header, pixel_size}
use Rattle.abuf_top.proofs.Afterwards.{after_front}
use Rattle.abuf_top.proofs.summary.sum_of_values.Goals as goal

pub returns : goal.returns
returns c =
    let job = c.args.drawing.now.job in
    let bytes : List ℕ = c.args.bytes.now in
    let front : ℕ = length (header job.camera.width job.camera.height job.maxval) in
    let rest : ℕ = c.pixel_size.result * c.pixels.result in
    let same : pixel_size job.maxval * (job.camera.width * job.camera.height) ≡ rest =
    ap₂ (λ (a b : ℕ). a * b) (sym (c.pixel_size.ensures ∙ ap (λ (n : ℕ). pixel_size n) (c.maxval.ensures.value ∙ ap (λ (j : Job). j.maxval) c.job.ensures))) (sym (c.pixels.ensures.value ∙ ap (λ (r : Region). r.w * r.h) c.region-region.ensures)) in
    let size : length bytes ≡ front + rest = c.requires ∙ ap (λ (n : ℕ). front + n) same in
    c.sum_of.ensures ∙ ap sum (after_front bytes front rest size)
