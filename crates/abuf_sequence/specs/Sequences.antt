-- The images of a sequence, one for each shot, and what writing them answers.
use Rattle.std.specs.Prelude.{◌≡◌, ◌⊎◌, ◌≤◌, ◌<◌, ◌-◌, ℕ, nat_lt, List, length, map, take, position, slice_index, Option, Some, None, Result, Ok, Err}
use Rattle.std.specs.List.{concat, position_or_len}
use Rattle.std.specs.Io.KnownBytes.{Appends}
use Rattle.abuf_io.specs.Causes.{Rose}
use Rattle.abuf_io.specs.Sinks.{Taken}
use Rattle.abuf_num.specs.declared.limits.TheConstants.{MAX_NODES, MAX_THREADS}
use Rattle.abuf_num.specs.declared.plain.PixelSum.{PixelSum}
use Rattle.abuf_raster.specs.Region.{whole_image}
use Rattle.abuf_raster.specs.Samples.{offsets_of}
use Rattle.abuf_scene.specs.declared.triangles.Triangle.{Triangle}
use Rattle.abuf_view.specs.Camera.{Camera, camera, IsSize, IsLens}
use Rattle.abuf_view.specs.Primitives.{Primitive, prims}
use Rattle.abuf_resolve.specs.Sums.{region_sums}
use Rattle.abuf_pam.specs.Image as pam
use Rattle.abuf_picture.specs.Picture as picture
use Rattle.abuf_sequence.specs.declared.path.Shot.{Shot}
use Rattle.abuf_sequence.specs.declared.plan.Plan.{Plan}
use Rattle.abuf_sequence.specs.declared.fault.SequenceFault.{SequenceFault}
use Rattle.abuf_sequence.specs.declared.fault.SequenceFault.TheVariants as fault

-- What every plan keeps to.
pub record IsPlan (plan : Plan) : Type 0 where
  pub size : IsSize plan.width plan.height
  pub lens : IsLens plan.focal plan.near
  pub nodes : (1 ≤ plan.nodes) × (plan.nodes ≤ MAX_NODES)
  pub threads : (1 ≤ plan.threads) × (plan.threads ≤ MAX_THREADS)
  pub maxval : (plan.maxval ≡ 255) ⊎ (plan.maxval ≡ 65535)

-- The camera of a shot: the plan's, turned and shifted.
abbrev pub camera_of : Plan → Shot → Camera
camera_of plan shot = camera plan.width plan.height shot.turn shot.shift plan.focal plan.near

-- What the camera of a shot sees of the scene's triangles.
abbrev pub seen_of : Plan → List Triangle → Shot → List Primitive
seen_of plan triangles shot = prims (camera_of plan shot) triangles

-- How many fragments the image of a shot has.
unfoldable pub total_of : Plan → List Triangle → Shot → ℕ
total_of plan triangles shot =
    picture.total (map (λ p. p.triangle) (seen_of plan triangles shot)) plan.pattern (whole_image plan.width plan.height)

-- For each pixel of the image of a shot, in order, the sums over its samples, each sample's colour by the primitives that cover it.
unfoldable pub sums_of : Plan → List Triangle → Shot → List PixelSum
sums_of plan triangles shot =
    region_sums (offsets_of plan.pattern) plan.background (map (λ p. p.triangle) (seen_of plan triangles shot))
    (map (λ p. p.paint) (seen_of plan triangles shot)) (whole_image plan.width plan.height)

-- The bytes of the image of a shot.
unfoldable pub image_of : Plan → List Triangle → Shot → List ℕ
image_of plan triangles shot =
    pam.image plan.width plan.height plan.maxval (length (offsets_of plan.pattern)) (sums_of plan triangles shot)

-- The numbers of fragments of all images, and the images.
abbrev pub totals : Plan → List Triangle → List Shot → List ℕ
totals plan triangles shots = map (total_of plan triangles) shots

abbrev pub images : Plan → List Triangle → List Shot → List (List ℕ)
images plan triangles shots = map (image_of plan triangles) shots

-- The first image that is full, counted from 0: one with more fragments than there are nodes.
abbrev pub first_full : Plan → List Triangle → List Shot → Option ℕ
first_full plan triangles shots = position (nat_lt plan.nodes) (totals plan triangles shots)

-- How many images come before the first full one, or how many there are if none is full.
abbrev pub sound_count : Plan → List Triangle → List Shot → ℕ
sound_count plan triangles shots = position_or_len (nat_lt plan.nodes) (totals plan triangles shots)

-- The images before the first full one, or all.
abbrev pub sound_images : Plan → List Triangle → List Shot → List (List ℕ)
sound_images plan triangles shots = take (sound_count plan triangles shots) (images plan triangles shots)

module _ (plan : Plan) (triangles : List Triangle) (shots : List Shot) (out : Taken) where
  -- No image is full, and all were written.
  pub record AreWritten : Type 0 where
    pub none_full : first_full plan triangles shots ≡ None
    pub all : sound_images plan triangles shots ≡ images plan triangles shots
    pub written : Appends out.old out.new (concat (sound_images plan triangles shots))

  -- This image, counted from 1, is the first that is full, and has so many fragments. Those before it were written.
  pub record StopsAtFull (image fragments nodes : ℕ) : Type 0 where
    pub from_one : 1 ≤ image
    pub first : first_full plan triangles shots ≡ Some (image - 1)
    pub count : fragments ≡ slice_index (totals plan triangles shots) (image - 1)
    pub nodes_are : nodes ≡ plan.nodes
    pub written : Appends out.old out.new (concat (sound_images plan triangles shots))

  -- The sink failed, and took a prefix of the images that come before the first full one. There is such an image.
  pub record StopsAtFault : Type 0 where
    pub begun : 1 ≤ length (sound_images plan triangles shots)
    pub part : (count : ℕ) × Appends out.old out.new (take count (concat (sound_images plan triangles shots)))
    pub rose : Rose out.faults_old out.faults_new

  -- Memory ran out for an image after so many, which were written whole.
  pub record StopsAfter (written : ℕ) : Type 0 where
    pub sound : written ≤ length (sound_images plan triangles shots)
    pub left : written < length shots
    pub whole : Appends out.old out.new (concat (take written (sound_images plan triangles shots)))

  -- What writing the images answers.
  abbrev pub IsSequenceAnswer : {T : Type 0} → Result T SequenceFault → Type 0
  IsSequenceAnswer (Ok _) = AreWritten
  IsSequenceAnswer (Err (fault.Full image fragments nodes)) = StopsAtFull image fragments nodes
  IsSequenceAnswer (Err fault.Write) = StopsAtFault
  IsSequenceAnswer (Err (fault.Memory images)) = StopsAfter images
