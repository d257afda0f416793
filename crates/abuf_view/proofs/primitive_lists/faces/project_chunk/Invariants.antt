use Rattle.std.proofs.Common.{◌≡◌, ◌++◌, All, flat_map, length}
use Rattle.abuf_obj.specs.Sound.{IsFace}
use Rattle.abuf_scene.specs.Triangles.{triangles_of}
use Rattle.abuf_scene.specs.Lookup.{look_up}
use Rattle.abuf_view.specs.Eye.{tris_by, paints_by}
use Rattle.abuf_view.proofs.primitive_lists.faces.project_chunk.Given as goal

abbrev pub invariant-loop-face : goal.invariant-loop-face
invariant-loop-face l = record {
  fine : All (IsFace (length l.obj.points) (length l.obj.names)) l.left;
  tris : l.made.tris ++ tris_by l.table.eye (flat_map (triangles_of (look_up l.palette.materials.value) l.obj) l.left)
      ≡ tris_by l.table.eye (flat_map (triangles_of (look_up l.palette.materials.value) l.obj) l.fn.chunk.faces);
  paints : l.made.paints ++ paints_by l.table.eye (flat_map (triangles_of (look_up l.palette.materials.value) l.obj) l.left)
      ≡ paints_by l.table.eye (flat_map (triangles_of (look_up l.palette.materials.value) l.obj) l.fn.chunk.faces);
}

abbrev pub decreases-loop-face : goal.decreases-loop-face
decreases-loop-face l = length l.left
