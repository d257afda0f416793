-- What a watched job tells, and how it stops.
use Rattle.std.specs.Prelude.{◌≡◌, ◌<◌, ℕ, List, Result, Ok, Err}
use Rattle.abuf_num.specs.declared.plain.Paint.{Paint}
use Rattle.abuf_frame.specs.Closing.{Ended}
use Rattle.abuf_raster.specs.declared.pattern.Pattern.{Pattern}
use Rattle.abuf_raster.specs.Region.{Region, whole_image}
use Rattle.abuf_raster.specs.Triangle.{Triangle}
use Rattle.abuf_cli.specs.Job.{Job}
use Rattle.abuf_cli.specs.declared.job.Command.TheVariants as command
use Rattle.abuf_cli.specs.declared.job.Storage.TheVariants as storage
use Rattle.abuf_cli.specs.declared.job.What.TheVariants as what
use Rattle.abuf_cli.specs.declared.job.WordFault.{WordFault}
use Rattle.abuf_watching.specs.declared.looking.TheConstants.{ROOM}
use Rattle.abuf_watching.specs.declared.looks.Looks.{Looks}
use Rattle.abuf_watching.specs.declared.stop.Stop.{Stop}
use Rattle.abuf_watching.specs.declared.stop.Stop.TheVariants as stop
use Rattle.abuf_watching.specs.Grid.{grid}
use Rattle.abuf_watching.specs.Report.{report_text}
use Rattle.abuf_watching.specs.Watching.{IsWatched}

-- The looks, at the pixels at these places, are those of a drawing of the triangles into a frame of some number of nodes.
abbrev pub TellsLooks : List Triangle → Pattern → Region → List ℕ → Looks → Type 0
TellsLooks triangles pattern r places looks =
    (nodes : ℕ) × (words : List (List ℕ)) × (closed : Ended) × IsWatched ROOM triangles pattern r nodes places looks words closed

-- Where a drawing of so many fragments into a pool of so many nodes stops, the pool is full, or memory ran out.
abbrev pub StopsFor : ℕ → ℕ → Stop → Type 0
StopsFor total nodes (stop.Full f n) = (f ≡ total) × (n ≡ nodes) × (nodes < total)
StopsFor total nodes stop.Memory = Unit {0}
StopsFor total nodes _ = ⊥

-- The image of a job.
abbrev pub image_of : Job → Region
image_of j = whole_image j.camera.width j.camera.height

-- The report and the looks are those of a job that draws these primitives, and of the pixels of its grid.
pub record IsWatchOf (j : Job) (triangles : List Triangle) (paints : List Paint) (report : List ℕ) (looks : Looks) : Type 0 where
  pub tells : report ≡ report_text triangles paints j.pattern j.background (image_of j) (grid (image_of j))
  pub looked : TellsLooks triangles j.pattern (image_of j) (grid (image_of j)) looks

-- The job is to draw an image into one frame.
abbrev pub IsOneImage : Job → Type 0
IsOneImage j = (j.command ≡ command.Draw what.Render) × (j.storage ≡ storage.OneFrame)

-- What is told where the words ask for this: a job that draws some primitives as an image, into one frame.
abbrev pub IsRunOf : Result Job WordFault → List ℕ → Looks → Type 0
IsRunOf (Ok j) report looks = IsOneImage j × (triangles : List Triangle) × (paints : List Paint) × IsWatchOf j triangles paints report looks
IsRunOf (Err fault) report looks = ⊥

-- The status of a process that stops. The numbers are those of `abuf`.
abbrev pub status_number : Stop → ℕ
status_number stop.Words = 2
status_number stop.SceneTooLong = 3
status_number (stop.SceneLine line) = 3
status_number (stop.Library number) = 4
status_number (stop.Full fragments nodes) = 5
status_number stop.Read = 6
status_number stop.Memory = 8
