use Rattle.std.proofs.Common.{◌≡◌, length}
use Rattle.abuf_obj.specs.Scene.{astray_line}
use Rattle.abuf_obj.proofs.scene.first_astray.Given as goal

abbrev pub invariant-loop-face : goal.invariant-loop-face
invariant-loop-face l = astray_line l.points l.faces ≡ astray_line l.points l.obj.faces

abbrev pub decreases-loop-face : goal.decreases-loop-face
decreases-loop-face l = length l.faces
