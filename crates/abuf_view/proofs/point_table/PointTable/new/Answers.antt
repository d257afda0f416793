use Rattle.abuf_view.proofs.Tables.{entries_are, no_entries}
use Rattle.abuf_view.proofs.point_table.PointTable.new.Goals.{then-is_shared+in_ok-chunks, else-is_shared}
use Rattle.abuf_view.proofs.point_table.PointTable.new.Goals as goal

pub invariant_of-result-clause-entries : goal.invariant_of-result-clause-entries
invariant_of-result-clause-entries g c =
    let e = c.args.eye in
    let points = c.args.points.now in
    let bits = c.chunk_bits-bits.result in
    elim c.if-is_shared.branch [
      | then-is_shared+in_ok-chunks w ↦ rw w.chunks-is (entries_are e points w.chunk_size.result bits w.in_ok-chunks.chunks.items w.chunk_size.ensures.value w.in_ok-chunks.ensures)
      | else-is_shared w ↦ no_entries e points bits c.if-is_shared.chunks.items (rw w.chunks-is c.new-chunks.ensures.items)
    ]
