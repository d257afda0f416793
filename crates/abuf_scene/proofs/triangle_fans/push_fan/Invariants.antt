use Rattle.std.proofs.Common.{◌≡◌, ◌≤◌, ◌+◌, ◌-◌, ◌++◌, map, length, All}
use Rattle.std.specs.List.{range_with_len}
use Rattle.abuf_obj.specs.Sound.{IsInRange}
use Rattle.abuf_scene.specs.Triangles.{triangle, IsTriangleInRange}
use Rattle.abuf_scene.proofs.triangle_fans.push_fan.Given as goal

abbrev pub invariant-loop-i : goal.invariant-loop-i
invariant-loop-i l = record {
  low : 1 ≤ l.i;
  fan : l.triangles ≡ l.fn.triangles ++ map (triangle l.points l.corners l.paint) (range_with_len 1 (l.i - 1));
  count : length l.triangles ≡ length l.fn.triangles + (l.i - 1);
  near : All IsInRange l.points → All IsTriangleInRange l.fn.triangles → All IsTriangleInRange l.triangles;
}
