-- A frame before it is closed, and what a reader sees of a pixel's list in it.
use Rattle.std.specs.Prelude.{◌≡◌, ◌≤◌, ◌*◌, ℕ, List, min}
use Rattle.abuf_frame.specs.Closing.{Ended}
use Rattle.abuf_frame.specs.Draws.{Adds}
use Rattle.abuf_frame.specs.Frame.{Shape}
use Rattle.abuf_frame.specs.Pass.{PassState}
use Rattle.abuf_frame.specs.Views.{IsSettled, IsWhole, whole_view}
use Rattle.abuf_frame.specs.declared.look.Look.{Look}
use Rattle.abuf_frame.specs.declared.look.Look.TheVariants as look
use Rattle.abuf_raster.specs.declared.pattern.Pattern.{Pattern}
use Rattle.abuf_raster.specs.Region.{Region}
use Rattle.abuf_raster.specs.Triangle.{Triangle}
use Rattle.abuf_resolve.specs.Words.{AreWordsAt}
use Rattle.abuf_fan.specs.declared.order.OrderedTriangles.{OrderedTriangles}
use Rattle.abuf_picture.specs.Picture.{IsFrameOf, fragments, total}
use Rattle.abuf_picture.specs.declared.drawing.Attempt.{Attempt}
use Rattle.abuf_picture.specs.declared.target.Target.{Target}

-- So many nodes serve for a pool of this many: for so many fragments as are drawn, more would never be claimed.
pub record IsPool (fragments nodes room : ℕ) : Type 0 where
  pub some : 1 ≤ room
  pub few : room ≤ nodes
  pub enough : min fragments nodes ≤ room

-- The triangles were ordered for a drawing of the target's region, with its samples.
abbrev pub IsOrderOf : List Triangle → Target → OrderedTriangles → Type 0
IsOrderOf triangles target ordered = (ordered.tris.now ≡ triangles) × (ordered.region ≡ target.region) × (ordered.pattern ≡ target.pattern)

-- The pass is the whole one of the frame, which has an empty list for each pixel of the region.
pub record IsStarted (r : Region) (frame : Shape) (pass : PassState) : Type 0 where
  pub belongs : pass.frame ≡ frame
  pub pixels_are : frame.pixels ≡ r.w * r.h
  pub fresh : pass.view ≡ whole_view

-- The pass is the whole one of the frame, which has a list for each pixel of the region, and it has an entry for each fragment.
pub record IsFilled (triangles : List Triangle) (pattern : Pattern) (r : Region) (frame : Shape) (pass : PassState) : Type 0 where
  pub belongs : pass.frame ≡ frame
  pub pixels_are : frame.pixels ≡ r.w * r.h
  pub whole : IsWhole pass.view
  pub settled : IsSettled pass.view
  pub drawn : Adds (fragments triangles pattern r) pass.view.entries

-- It was filled, and it has so many nodes.
pub record IsAttempt (triangles : List Triangle) (pattern : Pattern) (r : Region) (nodes : ℕ) (a : Attempt) : Type 0 where
  pub filled : IsFilled triangles pattern r a.frame a.pass
  pub some : 1 ≤ a.nodes
  pub few : a.nodes ≤ nodes
  pub nodes_are : a.frame.nodes ≡ a.nodes

-- It was filled, and has so many nodes, or fewer, where these are enough for all fragments.
pub record IsDrawn (triangles : List Triangle) (pattern : Pattern) (r : Region) (nodes : ℕ) (frame : Shape) (pass : PassState) : Type 0 where
  pub filled : IsFilled triangles pattern r frame pass
  pub pool : IsPool (total triangles pattern r) nodes frame.nodes

-- How many words a look left in a slice of this length. A look at a list that isn't linked yet counts for nothing.
abbrev pub found : Look → ℕ → ℕ
found (look.All count) room = count
found look.More room = room
found (look.Unlinked node) room = 0

-- What was seen before the frame was closed: the number of all entries, and, where these have nodes, the words of the
-- fragments at one place.
pub record IsPixelViewOf (triangles : List Triangle) (pattern : Pattern) (r : Region) (nodes place entries : ℕ) (words : List ℕ) (closed : Ended) : Type 0 where
  pub count : entries ≡ total triangles pattern r
  pub seen : total triangles pattern r ≤ nodes → AreWordsAt (fragments triangles pattern r) place words
  pub frame : IsFrameOf triangles pattern r nodes closed
