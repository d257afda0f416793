use Rattle.std.proofs.Common.{[], length, ap, arith}
use Rattle.std.proofs.lemmas.List.Elements.{All-nil, All-same}
use Rattle.abuf_obj.specs.Sound.{IsInRange, IsFan, triangles_in}
use Rattle.abuf_obj.proofs.reader.ObjReader.beginning.Goals as goal

pub invariant_of-result : goal.invariant_of-result
invariant_of-result c = record {
  few_points = omega (arith, c.requires.points, ap length c.in_ok-points.ensures);
  few_triangles = omega arith;
  few_names = c.requires.names;
  few_libraries = c.requires.libraries;
  near = All-same IsInRange c.in_ok-points.points [] c.in_ok-points.ensures (All-nil IsInRange);
  fans = All-same (IsFan (length c.args.names)) c.in_ok-faces.faces [] c.in_ok-faces.ensures (All-nil (IsFan (length c.args.names)));
  counts = ap triangles_in c.in_ok-faces.ensures;
  named = c.requires.name;
}
