-- A frame that is kept from one drawing to the next.
use Rattle.std.specs.Prelude.{◌≡◌, ◌≤◌, ◌*◌, ℕ, List}
use Rattle.abuf_frame.specs.Closing.{Ended}
use Rattle.abuf_raster.specs.declared.pattern.Pattern.{Pattern}
use Rattle.abuf_raster.specs.Region.{Region}
use Rattle.abuf_raster.specs.Triangle.{Triangle}
use Rattle.abuf_picture.specs.Drawn.{IsPool}
use Rattle.abuf_picture.specs.Picture.{IsFrameOf, total}

-- The kept frame serves for a drawing that needs so many nodes, in a region, into a pool of at most so many nodes.
pub record Serves (r : Region) (needed nodes : ℕ) (kept : Ended) : Type 0 where
  pub pixels_are : kept.pixels ≡ r.w * r.h
  pub enough : needed ≤ kept.nodes
  pub few : kept.nodes ≤ nodes

-- The closed frame into which all fragments in a region were drawn. It has so many nodes, or fewer, where these are enough for all
-- fragments.
pub record IsRoomyFrameOf (triangles : List Triangle) (pattern : Pattern) (r : Region) (nodes : ℕ) (closed : Ended) : Type 0 where
  pub frame : IsFrameOf triangles pattern r closed.nodes closed
  pub pool : IsPool (total triangles pattern r) nodes closed.nodes
