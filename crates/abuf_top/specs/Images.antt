-- The images of a sequence.
use Rattle.std.specs.Prelude.{◌≤◌, ◌+◌, All, ℕ, List, length, slice_index}
use Rattle.abuf_num.specs.declared.limits.TheConstants.{MAX_IMAGES}
use Rattle.abuf_scene.specs.declared.triangles.Triangle.{Triangle}
use Rattle.abuf_sequence.specs.declared.path.Shot.{Shot}
use Rattle.abuf_sequence.specs.declared.plan.Plan.{Plan}
use Rattle.abuf_sequence.specs.Paths.{IsShot}
use Rattle.abuf_sequence.specs.Sequences.{totals, IsPlan}
use Rattle.abuf_view.specs.Primitives.{AreInLimits}
use Rattle.abuf_cli.specs.Job.{Job}
use Rattle.abuf_top.specs.declared.stop.FullPool.{FullPool}
use Rattle.abuf_top.specs.declared.stop.FullPool.TheVariants as full

-- What is drawn: the triangles of one scene, for each shot of a path, after one plan.
pub record Images : Type 0 where
  pub plan : Plan
  pub triangles : List Triangle
  pub shots : List Shot

-- Triangles, shots and a plan of which images can be made.
abbrev pub AreSound : Plan → List Triangle → List Shot → Type 0
AreSound plan triangles shots = AreInLimits triangles × All IsShot shots × (length shots ≤ MAX_IMAGES) × IsPlan plan

-- The plan of a job: its shots have turns and shifts of their own in place of the camera's.
abbrev pub plan_of : Job → Plan
plan_of job = record {
  width = job.camera.width;
  height = job.camera.height;
  focal = job.camera.focal;
  near = job.camera.near;
  pattern = job.pattern;
  background = job.background;
  nodes = job.nodes;
  threads = job.threads;
  maxval = job.maxval;
}

-- The pool of image k, from 0, which has more fragments than nodes. Messages count images from 1.
abbrev pub image_pool : Images → ℕ → FullPool
image_pool i k = full.InSequence (k + 1) (slice_index (totals i.plan i.triangles i.shots) k) i.plan.nodes
