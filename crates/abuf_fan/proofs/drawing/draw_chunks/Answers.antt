use Rattle.std.proofs.Common.{arith, ◌+◌, ◌*◌, ◌<◌, ◌≤◌, ◌∙◌, [], ◌∷◌, ◌++◌, length, take, drop, refl, sym, ap, subst, append-nil, All, ℕ, List}
use Rattle.std.proofs.lemmas.List.Elements.{All-take, All-drop}
use Rattle.abuf_raster.specs.Samples.{offsets_of}
use Rattle.abuf_frame.specs.Draws.{Draws}
use Rattle.abuf_frame.proofs.Draws.{draws_none}
use Rattle.abuf_share.specs.declared.rule.TurnView.{TurnView}
use Rattle.abuf_fan.specs.Chunks.{chunk_fragments}
use Rattle.abuf_fan.proofs.Taken.{chunk_room, rest_room, under_last}
use Rattle.abuf_fan.proofs.Serving.{draws_more, drawn_next, spent_next, served_ends}
use Rattle.abuf_fan.proofs.drawing.draw_chunks.Goals as goal

pub loop-chunk-init : goal.loop-chunk-init
loop-chunk-init g c = record {
  same = refl;
  seat = refl;
  numbers = [];
  drawn_are = sym (append-nil _);
  spent = omega arith;
  above = λ m u. omega arith;
  low = omega arith;
  turns = let t = c.requires.can.numbers in let f = c.args.work.now.few in let n = c.args.work.now.each.all in omega arith;
  room = let t = c.requires.can.fragments in let n = ap (λ (k : ℕ). k * (c.args.work.now.region.w * c.args.work.now.region.h)) c.args.work.now.each.all in omega arith;
  drawn = draws_none c.args.pass.now.view;
}

pub draw_chunk-requires-clause-numbers : goal.draw_chunk-requires-clause-numbers
draw_chunk-requires-clause-numbers g c = let P : ℕ → Type 0 = λ n. n < length c.args.work.now.tris.now in let order : List ℕ = c.args.work.now.order.now in
    subst (All P) (sym c.chunk_of-numbers.ensures.chunk) (All-take P 64 (drop (64 * c.in-Some.chunk) order) (All-drop P (64 * c.in-Some.chunk) order c.args.work.now.each.small))

pub draw_chunk-requires-clause-credit : goal.draw_chunk-requires-clause-credit
draw_chunk-requires-clause-credit g c = let i = c.loop-chunk.invariant in let t = c.in-Some.ensures.number in let above = i.above t.0 t.2 in let a = t.3.0 in
    rw c.chunk_of-numbers.ensures.chunk (chunk_room c.args.work.now.order.now c.loop-chunk.next c.in-Some.chunk (c.args.work.now.region.w * c.args.work.now.region.h) c.loop-chunk.pass.view.credit (omega arith) i.room)

pub loop-chunk-smaller : goal.loop-chunk-smaller
loop-chunk-smaller g c = let i = c.loop-chunk.invariant in let t = c.in-Some.ensures.number in let above = i.above t.0 t.2 in let a = t.3.0 in let b = t.3.1 in let p = c.args.work.now.chunks in omega arith

pub loop-chunk-preserved : goal.loop-chunk-preserved
loop-chunk-preserved g c = let i = c.loop-chunk.invariant in let t = c.in-Some.ensures.number in let above = i.above t.0 t.2 in let a = t.3.0 in let b = t.3.1 in let p = c.args.work.now.chunks in
    let ts = c.args.work.now.tris.now in let order = c.args.work.now.order.now in let os = offsets_of c.args.work.now.pattern in let r = c.args.work.now.region in
    let low = i.low in let turns = i.turns in let some : 1 ≤ c.loop-chunk.turn.view.credit = omega arith in let credit = ap (λ (h : TurnView). h.credit) t.1 in
    let chunk : Draws (chunk_fragments ts os r order c.in-Some.chunk) c.loop-chunk.pass.view c.draw_chunk.new.pass.view = rw c.chunk_of-numbers.ensures.chunk at c.draw_chunk.ensures.draws in
    let few : c.loop-chunk.pass.view.credit ≤ c.draw_chunk.new.pass.view.credit + length (take 64 (drop (64 * c.in-Some.chunk) order)) * (r.w * r.h) = rw c.chunk_of-numbers.ensures.chunk at c.draw_chunk.ensures.few in record {
      same = c.draw_chunk.ensures.frame ∙ i.same;
      seat = c.take.ensures.table ∙ i.seat;
      numbers = i.numbers ++ t.0 ∷ [];
      drawn_are = drawn_next ts os r order c.args.turn.now.view c.loop-chunk.turn.view c.take.new.turn.view i.numbers t.0 i.drawn_are i.spent some t.1;
      spent = spent_next ts os r order c.args.turn.now.view c.loop-chunk.turn.view c.take.new.turn.view i.numbers t.0 i.drawn_are i.spent some t.1;
      above = λ m u. let l = under_last m t.0 c.loop-chunk.turn.view.drawn (subst (All (λ n. n < m)) (ap (λ (h : TurnView). h.drawn) t.1) u) in omega arith;
      low = omega arith;
      turns = omega arith;
      room = rest_room order c.loop-chunk.next c.in-Some.chunk (r.w * r.h) c.loop-chunk.pass.view.credit c.draw_chunk.new.pass.view.credit (omega arith) i.room few;
      drawn = draws_more ts os r order i.numbers t.0 c.in-Some.chunk c.args.pass.now.view c.loop-chunk.pass.view c.draw_chunk.new.pass.view a i.drawn chunk;
    }

pub returns : goal.returns
returns g c = record {
  served = record {
    same_frame = c.loop-chunk.invariant.same;
    same_desk = c.take.ensures.table ∙ c.loop-chunk.invariant.seat;
    served = let i = c.loop-chunk.invariant in let t = c.in_default.ensures.number in let b = t.3 in let p = c.args.work.now.chunks in let low = i.low in let turns = i.turns in
        served_ends c.args.work.now.tris.now (offsets_of c.args.work.now.pattern) c.args.work.now.region c.args.work.now.order.now c.args.turn.now.view c.loop-chunk.turn.view c.take.new.turn.view i.numbers t.0 i.drawn_are i.spent (omega arith) t.1 c.args.pass.now.view c.loop-chunk.pass.view (omega arith) c.take.ensures.each_once i.drawn;
  };
}
