use Rattle.std.proofs.Common.{◌≡◌, ◌≤◌, ◌-◌, ◌++◌, map}
use Rattle.std.specs.List.{range_with_len}
use Rattle.abuf_scene.specs.Triangles.{triangle}
use Rattle.abuf_view.specs.Eye.{tris_by, paints_by}
use Rattle.abuf_view.proofs.primitive_lists.PrimitiveLists.push_fan.Given as goal

abbrev pub invariant-loop-i : goal.invariant-loop-i
invariant-loop-i l = record {
  low : 1 ≤ l.i;
  tris : l.self.tris ≡ l.fn.self.tris ++ tris_by l.table.eye (map (triangle l.table.points.now l.corners l.paint) (range_with_len 1 (l.i - 1)));
  paints : l.self.paints ≡ l.fn.self.paints ++ paints_by l.table.eye (map (triangle l.table.points.now l.corners l.paint) (range_with_len 1 (l.i - 1)));
}
