-- What triangles give in a region of pixels: their fragments, the frame that holds these, and the lengths of its lists.
use Rattle.std.specs.Prelude.{◌≡◌, ◌<◌, ◌≤◌, ◌-◌, ◌*◌, ℕ, List, [], ◌++◌, length, slice_index_or, IsPermutation}
use Rattle.abuf_frame.specs.Closing.{Ended}
use Rattle.abuf_frame.specs.Draws.{payloads_at}
use Rattle.abuf_raster.specs.declared.pattern.Pattern.{Pattern}
use Rattle.abuf_raster.specs.Region.{Region}
use Rattle.abuf_raster.specs.Hits.{all_fragments}
use Rattle.abuf_raster.specs.Samples.{offsets_of}
use Rattle.abuf_raster.specs.Triangle.{Triangle}
use Rattle.abuf_resolve.specs.Laws.{counts}
use Rattle.abuf_resolve.specs.Lengths.{maximum}
use Rattle.abuf_resolve.specs.Words.{AreListsOf}

-- The fragments of all triangles in a region: each the place of its pixel, and its packed word.
abbrev pub fragments : List Triangle → Pattern → Region → List (ℕ × ℕ)
fragments triangles pattern r = all_fragments triangles 0 (offsets_of pattern) r

-- How many they are.
abbrev pub total : List Triangle → Pattern → Region → ℕ
total triangles pattern r = length (fragments triangles pattern r)

-- The length of the longest list of a pixel: no pixel has fragments of more triangles than this.
abbrev pub longest : List Triangle → Pattern → Region → ℕ
longest triangles pattern r = maximum (counts (offsets_of pattern) triangles r)

-- The lists hold these fragments but for so many: entries and a rest of this length are the fragments in some order, and the list
-- of each place has the words of the entries there, in an order of its own.
pub record AreListsOfAllBut (missing : ℕ) (fragments : List (ℕ × ℕ)) (lists : List (List ℕ)) : Type 0 where
  pub entries : List (ℕ × ℕ)
  pub rest : List (ℕ × ℕ)
  pub many : length rest ≡ missing
  pub drawn : IsPermutation (entries ++ rest) fragments
  pub each : (p : ℕ) → p < length lists → IsPermutation (slice_index_or lists p []) (payloads_at p entries)

-- The closed frame into which all fragments in a region were drawn: it has a list for each pixel, so many nodes, and as many
-- entries as there are fragments. Where these aren't more than the nodes, its lists are those of the fragments. Where they are, each
-- node has one of them, and the lists are those of all but as many as find no node.
pub record IsFrameOf (triangles : List Triangle) (pattern : Pattern) (r : Region) (nodes : ℕ) (closed : Ended) : Type 0 where
  pub pixels_are : closed.pixels ≡ r.w * r.h
  pub nodes_are : closed.nodes ≡ nodes
  pub count : closed.fragments ≡ total triangles pattern r
  pub each : length closed.lists ≡ r.w * r.h
  pub lists : total triangles pattern r ≤ nodes → AreListsOf (fragments triangles pattern r) closed.lists
  pub kept : AreListsOfAllBut (total triangles pattern r - nodes) (fragments triangles pattern r) closed.lists
