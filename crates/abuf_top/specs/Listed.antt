-- What a drawing writes by the lists of its frame, whatever way these are resolved.
use Rattle.std.specs.Prelude.{◌≡◌, ◌≤◌, ℕ, List, length, sum, Option, IfSome, Result, Ok, Err}
use Rattle.std.specs.Io.KnownBytes.{Appends}
use Rattle.abuf_num.specs.declared.plain.PixelSum.{PixelSum}
use Rattle.abuf_frame.specs.Closing.{Ended}
use Rattle.abuf_io.specs.Sinks.{Taken}
use Rattle.abuf_raster.specs.Samples.{offsets_of}
use Rattle.abuf_resolve.specs.declared.shading.spans.Resolved.{Resolved}
use Rattle.abuf_pam.specs.Image as pam
use Rattle.abuf_picture.specs.Resolving.{Subject, Way, Agrees, FitsIn}
use Rattle.abuf_cli.specs.declared.job.What.{What}
use Rattle.abuf_cli.specs.declared.job.What.TheVariants.{Render, Pick, Demo}
use Rattle.abuf_top.specs.Ending.{IsFrameOf, Produces, HandsBack}
use Rattle.abuf_top.specs.Image.{Drawing, region_of, has_one_frame, total}
use Rattle.abuf_top.specs.Summary.{summary_text, values_in}
use Rattle.abuf_top.specs.Table.{TookPart}
use Rattle.abuf_top.specs.Verdict.{pool_verdict}
use Rattle.abuf_top.specs.declared.stop.Stop.{Stop}
use Rattle.abuf_top.specs.declared.stop.Stop.TheVariants as stop
use Rattle.abuf_top.specs.declared.whole.Whole.{Whole}

-- What is resolved for a drawing.
abbrev pub subject_of : Drawing → Subject
subject_of d = record {
  triangles = d.triangles;
  paints = d.paints;
  pattern = d.job.pattern;
  background = d.job.background;
  region = region_of d.job;
}

-- The image of these sums.
unfoldable pub image_from : Drawing → List PixelSum → List ℕ
image_from d sums = pam.image d.job.camera.width d.job.camera.height d.job.maxval (length (offsets_of d.job.pattern)) sums

-- The four numbers of a drawing of which this was resolved.
unfoldable pub summary_from : Drawing → Resolved → List ℕ
summary_from d all = summary_text (length d.triangles) (total d) all.longest (sum (values_in d.job (image_from d all.sums)))

-- The closed frame of a drawing, in which every fragment has a node, and what the way gives for its lists.
pub record IsWholeBy (way : Way) (d : Drawing) (whole : Whole) : Type 0 where
  pub frame : IsFrameOf d whole.closed
  pub not_full : whole.closed.fragments ≤ whole.closed.nodes
  pub resolved : whole.resolved ≡ way (subject_of d) whole.closed.lists
  pub fits : FitsIn (subject_of d) whole.resolved

-- The output of a command is what was resolved: its image, or its summary. The report of `pick` isn't, since the list of its pixel is
-- read before the frame is closed.
abbrev pub IsMadeOf : What → Drawing → Resolved → List ℕ → Type 0
IsMadeOf Render d all bytes = bytes ≡ image_from d all.sums
IsMadeOf (Pick x y) d all bytes = Unit {0}
IsMadeOf (Demo number) d all bytes = bytes ≡ summary_from d all

-- Where there is a frame, the output is made of what the way gives for its lists.
abbrev pub ComesFrom : Way → Drawing → Option Ended → List ℕ → Type 0
ComesFrom way d closed bytes = IfSome closed (λ c. IsMadeOf d.what d (way (subject_of d) c.lists) bytes)

abbrev pub MayComeFrom : Way → Drawing → Result (List ℕ) Stop → Option Ended → Type 0
MayComeFrom way d (Ok bytes) closed = ComesFrom way d closed bytes
MayComeFrom way d (Err s) closed = Unit {0}

-- What is produced: where the way gives what the definition says for all lists of the fragments, the bytes are what the verdict says.
-- How a drawing stops doesn't hang on the way.
abbrev pub ProducesBy : Way → Drawing → Result (List ℕ) Stop → Type 0
ProducesBy way d (Ok bytes) = Agrees way (subject_of d) → Produces (pool_verdict d) (Ok bytes)
ProducesBy way d (Err s) = Produces (pool_verdict d) (Err s)

-- The bytes that a drawing writes, or how it stops, and its closed frame, whatever the way.
pub record IsOutputBy (way : Way) (d : Drawing) (bytes : Result (List ℕ) Stop) (closed : Option Ended) : Type 0 where
  pub produced : ProducesBy way d bytes
  pub listed : MayComeFrom way d bytes closed
  pub frame : IfSome closed (IsFrameOf d)
  pub handed : HandsBack (has_one_frame d.job) bytes closed

-- What was written of the output. It is made of what the way gives for the lists of the frame that is handed back.
abbrev pub WritesFrom : Way → Drawing → Taken → Result (Unit {0}) Stop → Option Ended → Type 0
WritesFrom way d out (Ok _) closed = (bytes : List ℕ) × ComesFrom way d closed bytes × Appends out.old out.new bytes
WritesFrom way d out (Err stop.WriteFault) closed = (bytes : List ℕ) × ComesFrom way d closed bytes × TookPart out bytes
WritesFrom way d out _ closed = Unit {0}
