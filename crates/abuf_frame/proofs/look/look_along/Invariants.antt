use Rattle.std.proofs.Common.{◌≡◌, ◌-◌, ◌≤◌}
use Rattle.abuf_frame.specs.Walks.{AllMet, OnLast, going, new_walk, noting, walked_on, with_walk}
use Rattle.abuf_frame.proofs.Looks.{SeesList, Shown}
use Rattle.abuf_frame.proofs.Along.{Going}
use Rattle.abuf_frame.proofs.look.look_along.Given as goal

abbrev pub ghosts-look_head_at : goal.ghosts-look_head_at
ghosts-look_head_at a = record { after = λ found. with_walk (new_walk a.pixel found a.seat.now.me.0) a.seat.now.me.0; shows = λ found. (found ≤ a.words.now.key.nodes) × (found ≡ 0 → AllMet (new_walk a.pixel found a.seat.now.me.0)) × SeesList a.seat.now.me.0 (new_walk a.pixel found a.seat.now.me.0) }

abbrev pub ghosts-look_payload_at : goal.ghosts-look_payload_at
ghosts-look_payload_at a = record { after = λ found. walked_on (noting found) a.seat.now.me.0; shows = λ _. Unit {0} }

abbrev pub ghosts-look_next_at : goal.ghosts-look_next_at
ghosts-look_next_at a = record { after = λ found. walked_on (going found) a.seat.now.me.0; shows = λ found. OnLast (λ w. Shown a.words.now.key.nodes a.seat.now.me.0 w found) a.seat.now.me.0.walks }

abbrev pub invariant-loop-at : goal.invariant-loop-at
invariant-loop-at l = (l.seat.table_id ≡ l.fn.seat.table_id) × (l.seat.id ≡ l.fn.seat.id) × Going l.pixel l.nodes l.fn.seat.me.0 l.fn.out l.out l.at l.count l.seat.me

abbrev pub decreases-loop-at : goal.decreases-loop-at
decreases-loop-at l = l.nodes - l.count
