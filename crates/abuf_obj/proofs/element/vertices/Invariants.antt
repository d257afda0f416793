use Rattle.std.proofs.Common.{◌≡◌, ◌+◌, length, []}
use Rattle.abuf_obj.specs.Elements.{vertices_of}
use Rattle.abuf_obj.proofs.Joining.{joined}
use Rattle.abuf_obj.proofs.element.vertices.Given as goal

abbrev pub invariant-loop-i : goal.invariant-loop-i
invariant-loop-i l = record {
  value : joined l.list.items (vertices_of l.above l.elements) ≡ joined [] (vertices_of l.above l.fn.elements);
  count : length l.list.items + length l.elements ≡ l.count;
  index : length l.list.items ≡ l._i;
}
