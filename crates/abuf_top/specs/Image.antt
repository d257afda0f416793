-- What a job draws, from its primitives alone, sample by sample.
use Rattle.std.specs.Prelude.{◌+◌, ◌*◌, Bool, true, false, ℕ, List, length, map}
use Rattle.abuf_num.specs.declared.plain.Paint.{Paint}
use Rattle.abuf_num.specs.declared.plain.PixelSum.{PixelSum}
use Rattle.abuf_raster.specs.Samples.{offsets_of}
use Rattle.abuf_raster.specs.Triangle.{Triangle}
use Rattle.abuf_raster.specs.Region.{Region, whole_image}
use Rattle.abuf_view.specs.Primitives.{Primitive}
use Rattle.abuf_resolve.specs.Sums.{region_sums}
use Rattle.abuf_pam.specs.Image as pam
use Rattle.abuf_picture.specs.Picture as picture
use Rattle.abuf_cli.specs.Job.{Job}
use Rattle.abuf_cli.specs.declared.job.Storage.{Storage}
use Rattle.abuf_cli.specs.declared.job.Storage.TheVariants.{OneFrame, Bands, Layers}
use Rattle.abuf_cli.specs.declared.job.What.{What}

-- What is drawn: the job, what is made of it, and the primitives of its scene in order, as their triangles on the screen and their
-- paints. The place of a primitive in the lists is its number.
pub record Drawing : Type 0 where
  pub job : Job
  pub what : What
  pub triangles : List Triangle
  pub paints : List Paint

abbrev pub drawing_of : Job → What → List Primitive → Drawing
drawing_of job what primitives = record {
  job = job;
  what = what;
  triangles = map (λ p. p.triangle) primitives;
  paints = map (λ p. p.paint) primitives;
}

-- All pixels of a job's image.
abbrev pub region_of : Job → Region
region_of job = whole_image job.camera.width job.camera.height

-- The fragments of all primitives in the whole image: each the place of its pixel and its packed word.
abbrev pub fragments : Drawing → List (ℕ × ℕ)
fragments d = picture.fragments d.triangles d.job.pattern (region_of d.job)

-- How many they are.
abbrev pub total : Drawing → ℕ
total d = picture.total d.triangles d.job.pattern (region_of d.job)

-- All fragments are in one frame at once.
abbrev pub is_whole : Storage → Bool
is_whole OneFrame = true
is_whole (Bands bands) = false
is_whole Layers = false

abbrev pub has_one_frame : Job → Bool
has_one_frame job = is_whole job.storage

-- The sums over the samples of each pixel, from the primitives alone.
abbrev pub sums : Drawing → List PixelSum
sums d = region_sums (offsets_of d.job.pattern) d.job.background d.triangles d.paints (region_of d.job)

-- The image: for each pixel and channel the mean over the samples of the pattern, each sample's colour by the primitives
-- that cover it.
unfoldable pub image : Drawing → List ℕ
image d = pam.image d.job.camera.width d.job.camera.height d.job.maxval (length (offsets_of d.job.pattern)) (sums d)

-- How many bytes an image has: its header, and the values of its pixels.
abbrev pub size_of : Job → ℕ
size_of job =
    length (pam.header job.camera.width job.camera.height job.maxval) + pam.pixel_size job.maxval * (job.camera.width * job.camera.height)
