use Rattle.std.proofs.Common.{◌≡◌, ℕ, ◌-◌, length, map, vec_items}
use Rattle.abuf_frame.specs.Closing.{lists_from}
use Rattle.abuf_frame.proofs.Eight.{AllWalk}
use Rattle.abuf_frame.proofs.closed.Closed.copy_eights.Given as goal

abbrev pub invariant-loop : goal.invariant-loop
invariant-loop l =
    let all = lists_from l.words l.self-inside.pixels l.self-inside.table_nodes 0 l.self-inside.pixels in
    let most : ℕ = l.self-inside.table_nodes - l.counter in
    (length l.lists ≡ 8) × (length l.others ≡ 8)
    × AllWalk l.words l.self-inside.pixels l.self-inside.table_nodes most l.at (map vec_items l.lists) all l.pixel
    × AllWalk l.words l.self-inside.pixels l.self-inside.table_nodes most l.other_at (map vec_items l.others) all l.other
