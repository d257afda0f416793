-- Resolving: what is made of the lists of a closed frame, whoever makes it.
use Rattle.std.specs.Prelude.{◌≡◌, ◌≤◌, ◌<◌, ◌*◌, ℕ, List, length, map, MatchOption}
use Rattle.std.specs.List.{All}
use Rattle.abuf_num.specs.declared.plain.Paint.{Paint}
use Rattle.abuf_frame.specs.Closing.{Ended}
use Rattle.abuf_raster.specs.declared.pattern.Pattern.{Pattern}
use Rattle.abuf_raster.specs.Region.{Region}
use Rattle.abuf_raster.specs.Samples.{offsets_of}
use Rattle.abuf_raster.specs.Triangle.{Triangle}
use Rattle.abuf_resolve.specs.declared.shading.spans.Resolved.{Resolved}
use Rattle.abuf_resolve.specs.Lengths.{maximum}
use Rattle.abuf_resolve.specs.Sums.{IsSmall, region_sums}
use Rattle.abuf_resolve.specs.Words.{frame_sums, AreFragmentLists, AreListsOf}
use Rattle.abuf_picture.specs.declared.primitives.Primitives.{Primitives}
use Rattle.abuf_picture.specs.declared.target.Target.{Target}
use Rattle.abuf_picture.specs.declared.rendering.Rendering.{Rendering}
use Rattle.abuf_picture.specs.Picture.{IsFrameOf, fragments, longest}

-- What is resolved, besides the lists: the primitives, where the samples of a pixel lie, the colour under all primitives, and the
-- pixels. Neither the nodes nor the threads are a part of it.
pub record Subject : Type 0 where
  pub triangles : List Triangle
  pub paints : List Paint
  pub pattern : Pattern
  pub background : List ℕ
  pub region : Region

-- The subject of primitives and of what they are drawn into.
abbrev pub subject : Primitives → Target → Subject
subject p t = record {
  triangles = p.triangles.now;
  paints = p.paints.now;
  pattern = t.pattern;
  background = t.background;
  region = t.region;
}

-- A way to resolve: what it gives for the lists of a frame.
abbrev pub Way : Type 0
Way = Subject → List (List ℕ) → Resolved

-- The way of this renderer: in each sample the fragments that have it, ordered by their depth keys there and their numbers, laid over
-- the background; and the length of the longest list.
abbrev pub composited : Way
composited s lists = record {
  sums = frame_sums (offsets_of s.pattern) s.background s.triangles s.paints s.region lists;
  longest = maximum (map length lists);
}

-- What the definition says, from the primitives alone.
abbrev pub defined : Subject → Resolved
defined s = record {
  sums = region_sums (offsets_of s.pattern) s.background s.triangles s.paints s.region;
  longest = longest s.triangles s.pattern s.region;
}

-- The way gives what the definition says for whatever lists hold all fragments, in whatever order.
abbrev pub Agrees : Way → Subject → Type 0
Agrees way s =
    (lists : List (List ℕ)) → length lists ≡ s.region.w * s.region.h → AreListsOf (fragments s.triangles s.pattern s.region) lists
    → way s lists ≡ defined s

-- A frame whose lists may be resolved: no fragment was lost, there is a list for each pixel, and its words are those of fragments
-- there. They needn't be those of all fragments.
pub record IsResolvable (s : Subject) (closed : Ended) : Type 0 where
  pub not_full : closed.fragments ≤ closed.nodes
  pub pixels_are : closed.pixels ≡ s.region.w * s.region.h
  pub each : length closed.lists ≡ s.region.w * s.region.h
  pub words : AreFragmentLists (offsets_of s.pattern) s.triangles s.region closed.lists

-- There are sums for each pixel, which as many samples can have.
pub record FitsIn (s : Subject) (all : Resolved) : Type 0 where
  pub each : length all.sums ≡ s.region.w * s.region.h
  pub small : All (IsSmall (length (offsets_of s.pattern))) all.sums

-- The closed frame into which the primitives were drawn, and what the way gives for its lists, exactly where it isn't full.
pub record IsRenderingBy (way : Way) (s : Subject) (nodes : ℕ) (rendering : Rendering) : Type 0 where
  pub frame : IsFrameOf s.triangles s.pattern s.region nodes rendering.closed
  pub resolved : MatchOption rendering.resolved (rendering.closed.nodes < rendering.closed.fragments)
      (λ all. (rendering.closed.fragments ≤ rendering.closed.nodes) × (all ≡ way s rendering.closed.lists) × FitsIn s all)
