use Rattle.std.proofs.Common.{◌-◌, [], slice_index_or}
use Rattle.abuf_frame.specs.Closing.{lists_from}
use Rattle.abuf_frame.proofs.Eight.{Walks}
use Rattle.abuf_frame.proofs.closed.Closed.copy_list.Given as goal

abbrev pub invariant-loop : goal.invariant-loop
invariant-loop l = Walks l.self-inside.words l.self-inside.pixels l.self-inside.table_nodes (l.self-inside.table_nodes - l.counter) l.at l.items.items
    (slice_index_or (lists_from l.self-inside.words l.self-inside.pixels l.self-inside.table_nodes 0 l.self-inside.pixels) l.pixel [])
