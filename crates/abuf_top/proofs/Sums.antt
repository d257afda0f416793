-- The sums of a drawing: one for each pixel.
use Rattle.std.proofs.Common.{◌≡◌, ◌*◌, length}
use Rattle.std.proofs.lemmas.List.FromFn.{length-map-range_with_len}
use Rattle.abuf_top.specs.Image.{Drawing, sums}

-- There are as many as pixels.
pub sums_long : (d : Drawing) → length (sums d) ≡ d.job.camera.width * d.job.camera.height
sums_long d = length-map-range_with_len _ 0 (d.job.camera.width * d.job.camera.height)
