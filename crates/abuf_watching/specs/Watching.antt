-- What a watched drawing gives.
use Rattle.std.specs.Prelude.{◌≡◌, ◌≤◌, ℕ, List, ◌++◌, length, map, IsPermutation}
use Rattle.std.specs.List.{AllZip, range_with_len}
use Rattle.abuf_frame.specs.declared.view.Entry.{Entry}
use Rattle.abuf_frame.specs.declared.view.View.{View}
use Rattle.abuf_frame.specs.declared.view.Walk.{Walk}
use Rattle.abuf_frame.specs.Closing.{AllSeen, Ended}
use Rattle.abuf_frame.specs.Draws.{pairs, payloads_at}
use Rattle.abuf_raster.specs.declared.pattern.Pattern.{Pattern}
use Rattle.abuf_raster.specs.Region.{Region}
use Rattle.abuf_raster.specs.Triangle.{Triangle}
use Rattle.abuf_resolve.specs.Words.{AreWordsAt}
use Rattle.abuf_picture.specs.Picture.{IsFrameOf, fragments, total}
use Rattle.abuf_watching.specs.declared.looks.Looks.{Looks}
use Rattle.abuf_watching.specs.Looking.{AreCounts, Saw, turn_at}

-- From v to w a whole pass has looked at some pixels, and has seen that there are as many numbers as it has entries.
pub record HasLooked (v w : View) : Type 0 where
  pub walks : List Walk
  pub saw : Saw walks v w
  pub seen : w.seen ≡ length v.entries

-- Where the entries are those of these fragments, so that none was lost, the words are those at the place.
abbrev pub IsSight : List (ℕ × ℕ) → List Entry → ℕ → List ℕ → Type 0
IsSight items es place words = IsPermutation (pairs es) items → IsPermutation words (payloads_at place (pairs es))

-- The closed frame has all fragments. Meanwhile a watcher has looked at the pixels at these places in turn, with so much room.
-- Each of its looks that reached the end of its list has passed those of the pixel's fragments that are last in the closed frame's
-- list. Where the fragments aren't more than the nodes, these words were seen last, those of the fragments at each place.
pub record IsWatched (room : ℕ) (triangles : List Triangle) (pattern : Pattern) (r : Region) (nodes : ℕ) (places : List ℕ) (looks : Looks) (words : List (List ℕ)) (closed : Ended) : Type 0 where
  pub frame : IsFrameOf triangles pattern r nodes closed
  pub walks : List Walk
  pub turns : map (λ x. x.pixel) walks ≡ map (turn_at places) (range_with_len 0 (length walks))
  pub counts : AreCounts room walks looks
  pub passed : AllSeen closed.lists walks
  pub between : looks.first ≤ looks.last
  pub before : looks.last ≤ total triangles pattern r
  pub last : total triangles pattern r ≤ nodes → AllZip (AreWordsAt (fragments triangles pattern r)) places words
