use Rattle.std.proofs.Common.{◌≡◌, take, drop, find, flat_map, length, All}
use Rattle.abuf_obj.specs.Sound.{IsInRange, triangles_in}
use Rattle.abuf_scene.specs.Triangles.{is_unknown, triangles_of, IsTriangleInRange}
use Rattle.abuf_scene.specs.Lookup.{look_up}
use Rattle.abuf_scene.proofs.assembly.all_fans.Given as goal

abbrev pub invariant-loop-face : goal.invariant-loop-face
invariant-loop-face l = record {
  known : find (is_unknown (look_up l.materials) l.obj.names) (drop l.face-index l.obj.faces) ≡ find (is_unknown (look_up l.materials) l.obj.names) l.obj.faces;
  triangles : l.triangles ≡ flat_map (triangles_of (look_up l.materials) l.obj) (take l.face-index l.obj.faces);
  count : length l.triangles ≡ triangles_in (take l.face-index l.obj.faces);
  near : All IsInRange l.obj.points → All IsTriangleInRange l.triangles;
}
