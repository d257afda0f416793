use Rattle.std.proofs.Common.{◌≡◌, All, find, length}
use Rattle.abuf_obj.specs.Sound.{IsFace}
use Rattle.abuf_scene.specs.Lookup.{look_up}
use Rattle.abuf_scene.specs.Triangles.{is_unknown}
use Rattle.abuf_view.proofs.palette.Palette.first_unknown.Given as goal

abbrev pub invariant-loop-face : goal.invariant-loop-face
invariant-loop-face l = record {
  fine : All (IsFace (length l.obj.points) (length l.obj.names)) l.left;
  same : find (is_unknown (look_up l.self.materials.value) l.obj.names) l.left ≡ find (is_unknown (look_up l.self.materials.value) l.obj.names) l.obj.faces;
}

abbrev pub decreases-loop-face : goal.decreases-loop-face
decreases-loop-face l = length l.left
