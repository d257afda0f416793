-- What `demo` writes: four numbers of a drawing.
use Rattle.std.specs.Prelude.{◌++◌, ℕ, List, length, drop, sum, codes}
use Rattle.std.specs.Fmt.{decimal}
use Rattle.abuf_cli.specs.Job.{Job}
use Rattle.abuf_pam.specs.Image as pam
use Rattle.abuf_picture.specs.Picture as picture
use Rattle.abuf_top.specs.Image.{Drawing, total, image, region_of}

-- The length of the longest list of a pixel: the greatest number of primitives that have a fragment in one.
unfoldable pub longest : Drawing → ℕ
longest d = picture.longest d.triangles d.job.pattern (region_of d.job)

-- The bytes of a job's image after its header.
abbrev pub values_in : Job → List ℕ → List ℕ
values_in job bytes = drop (length (pam.header job.camera.width job.camera.height job.maxval)) bytes

-- The bytes of the image that is drawn, after its header.
unfoldable pub values : Drawing → List ℕ
values d = values_in d.job (image d)

-- Four lines, each a name and a number.
abbrev pub summary_text : ℕ → ℕ → ℕ → ℕ → List ℕ
summary_text triangles fragments most value_sum =
    codes "triangles " ++ decimal triangles ++ codes "\nfragments " ++ decimal fragments ++ codes "\nlongest " ++ decimal most ++ codes "\nsum " ++ decimal value_sum ++ codes "\n"

-- The number of primitives, the number of fragments, the length of the longest list of a pixel, and the sum of the image's
-- bytes after its header.
unfoldable pub summary : Drawing → List ℕ
summary d = summary_text (length d.triangles) (total d) (longest d) (sum (values d))
