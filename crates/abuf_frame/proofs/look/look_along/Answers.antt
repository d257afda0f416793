use Rattle.std.proofs.Common.{rules, ◌≡◌, ◌≢◌, ◌<◌, arith, length}
use Rattle.abuf_frame.specs.declared.view.FrameSize.{FrameSize}
use Rattle.abuf_frame.specs.Words.{mark}
use Rattle.abuf_frame.proofs.Looks.{looks_head}
use Rattle.abuf_frame.proofs.Along.{has_noted, may_note, may_go, goes_on, stops_at, stops_full, reaches_end, never_stops, ends_list, full_list}
use Rattle.abuf_frame.proofs.look.look_along.Goals as goal

pub look_head_at-at-requires : goal.look_head_at-at-requires
look_head_at-at-requires c = let k : FrameSize = record { pixels = c.args.pixels; nodes = c.args.nodes } in (search rules, search rules, rw c.requires.key.0 (looks_head k _ _ c.args.seat.now.me c.requires.table.2 c.args.pixel c.requires.key.2))

pub look_payload_at-payload-requires-clause-step : goal.look_payload_at-payload-requires-clause-step
look_payload_at-payload-requires-clause-step c = let k : FrameSize = record { pixels = c.args.pixels; nodes = c.args.nodes } in let g = c.loop-at.invariant.2 in let away : c.loop-at.at ≢ 0 = search rules in let s = g.small in
    (search rules, search rules, rw c.requires.key.0 (may_note _ _ _ _ _ _ _ _ g away k _ _))

pub look_next_at-next-requires-clause-noted : goal.look_next_at-next-requires-clause-noted
look_next_at-next-requires-clause-noted c = let g = c.loop-at.invariant.2 in let away : c.loop-at.at ≢ 0 = search rules in
    has_noted _ _ _ _ _ _ _ _ g away c.look_payload_at-payload.result c.look_payload_at-payload.new.seat.me c.look_payload_at-payload.ensures.2

pub look_next_at-next-requires-clause-step : goal.look_next_at-next-requires-clause-step
look_next_at-next-requires-clause-step c = let k : FrameSize = record { pixels = c.args.pixels; nodes = c.args.nodes } in let g = c.loop-at.invariant.2 in let away : c.loop-at.at ≢ 0 = search rules in let s = g.small in
    let few : c.args.nodes < mark = search rules in
    (search rules, search rules, rw c.requires.key.0 (may_go _ _ _ _ _ _ _ _ g away c.look_payload_at-payload.result c.look_payload_at-payload.new.seat.me c.look_payload_at-payload.ensures.2 k _ _ few))

pub returns-then-next-clause-walk : goal.returns-then-next-clause-walk
returns-then-next-clause-walk c = let g = c.loop-at.invariant.2 in let away : c.loop-at.at ≢ 0 = search rules in let sh = rw c.requires.key.0 at c.look_next_at-next.ensures.3 in let found : c.look_next_at-next.result ≡ mark = search rules in let room : c.loop-at.count ≢ length c.loop-at.out = search rules in
    stops_at _ _ _ _ _ _ _ _ g away c.look_payload_at-payload.result c.look_payload_at-payload.new.seat.me c.look_payload_at-payload.ensures.2 c.look_next_at-next.result c.look_next_at-next.new.seat.me c.look_next_at-next.ensures.2 sh found room

pub returns-then-next-clause-linked : goal.returns-then-next-clause-linked
returns-then-next-clause-linked c = let g = c.loop-at.invariant.2 in let away : c.loop-at.at ≢ 0 = search rules in let sh = rw c.requires.key.0 at c.look_next_at-next.ensures.3 in let found : c.look_next_at-next.result ≡ mark = search rules in
    λ whole settled n e. never_stops _ _ _ _ _ _ _ _ g away c.look_payload_at-payload.result c.look_payload_at-payload.new.seat.me c.look_payload_at-payload.ensures.2 c.look_next_at-next.result c.look_next_at-next.new.seat.me c.look_next_at-next.ensures.2 sh found whole settled

pub loop-at-smaller : goal.loop-at-smaller
loop-at-smaller c = let g = c.loop-at.invariant.2 in let away : c.loop-at.at ≢ 0 = search rules in let sh = rw c.requires.key.0 at c.look_next_at-next.ensures.3 in let free : c.look_next_at-next.result ≢ mark = search rules in let room : c.loop-at.count < length c.args.out.now = search rules in
    let n = goes_on _ _ _ _ _ _ _ _ g away c.look_payload_at-payload.result c.look_payload_at-payload.new.seat.me c.look_payload_at-payload.ensures.2 c.look_next_at-next.result c.look_next_at-next.new.seat.me c.look_next_at-next.ensures.2 sh free room in let few = n.few in omega arith

pub loop-at-preserved : goal.loop-at-preserved
loop-at-preserved c = let g = c.loop-at.invariant.2 in let away : c.loop-at.at ≢ 0 = search rules in let sh = rw c.requires.key.0 at c.look_next_at-next.ensures.3 in let free : c.look_next_at-next.result ≢ mark = search rules in let room : c.loop-at.count < length c.args.out.now = search rules in
    (search rules, search rules, goes_on _ _ _ _ _ _ _ _ g away c.look_payload_at-payload.result c.look_payload_at-payload.new.seat.me c.look_payload_at-payload.ensures.2 c.look_next_at-next.result c.look_next_at-next.new.seat.me c.look_next_at-next.ensures.2 sh free room)

pub returns-then-count-out-clause-walk : goal.returns-then-count-out-clause-walk
returns-then-count-out-clause-walk c = let g = c.loop-at.invariant.2 in let away : c.loop-at.at ≢ 0 = search rules in let full : c.loop-at.count ≡ length c.loop-at.out = search rules in
    stops_full _ _ _ _ _ _ _ _ g away full

pub returns-clause-walk : goal.returns-clause-walk
returns-clause-walk c = let g = c.loop-at.invariant.2 in let ended : c.loop-at.at ≡ 0 = search rules in reaches_end _ _ _ _ _ _ _ _ g ended

pub returns-then-next-clause-list : goal.returns-then-next-clause-list
returns-then-next-clause-list c = let g = c.loop-at.invariant.2 in let away : c.loop-at.at ≢ 0 = search rules in let sh = rw c.requires.key.0 at c.look_next_at-next.ensures.3 in let found : c.look_next_at-next.result ≡ mark = search rules in
    λ whole settled. absurd (never_stops _ _ _ _ _ _ _ _ g away c.look_payload_at-payload.result c.look_payload_at-payload.new.seat.me c.look_payload_at-payload.ensures.2 c.look_next_at-next.result c.look_next_at-next.new.seat.me c.look_next_at-next.ensures.2 sh found whole settled)

pub returns-then-count-out-clause-list : goal.returns-then-count-out-clause-list
returns-then-count-out-clause-list c = let g = c.loop-at.invariant.2 in let away : c.loop-at.at ≢ 0 = search rules in let full : c.loop-at.count ≡ length c.loop-at.out = search rules in
    full_list _ _ _ _ _ _ _ _ g away full

pub returns-clause-list : goal.returns-clause-list
returns-clause-list c = let g = c.loop-at.invariant.2 in let ended : c.loop-at.at ≡ 0 = search rules in ends_list _ _ _ _ _ _ _ _ g ended
