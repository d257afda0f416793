use Rattle.std.proofs.Common.{◌≡◌, map, take}
use Rattle.abuf_view.specs.ShortPoints.{short_point}
use Rattle.abuf_view.proofs.point_table.short_points.Given as goal

abbrev pub invariant-loop-point : goal.invariant-loop-point
invariant-loop-point l = l.made.items ≡ map (short_point l.eye) (take l.point-index l.points)
