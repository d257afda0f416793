use Rattle.std.proofs.Common.{ap, arith, length, subst, sym}
use Rattle.abuf_raster.specs.Samples.{offsets_of}
use Rattle.abuf_share.specs.declared.rule.TurnView.{TurnView}
use Rattle.abuf_fan.specs.Chunks.{IsOrder}
use Rattle.abuf_fan.proofs.Chunks.{all_fragments_few}
use Rattle.abuf_fan.proofs.Growing.{grows_endowment, grows_loose}
use Rattle.abuf_fan.proofs.Halves.{served_all}
use Rattle.abuf_fan.proofs.drawing.draw_ordered.Goals as goal

pub draw_workers-requires-clause-can : goal.draw_workers-requires-clause-can
draw_workers-requires-clause-can g c = λ κs within.
    let start = c.in_ok-desk.ensures in
    let credit = ap (λ (h : TurnView). h.credit) start.2 in
    let threads = c.requires.threads in
    record { of_frame = c.requires.frame; of_desk = start.1; numbers = omega arith; fragments = c.requires.credit }

pub returns-clause-drawn : goal.returns-clause-drawn
returns-clause-drawn g c = served_all c.args.ordered.now.tris.now (offsets_of c.args.ordered.now.pattern) c.args.ordered.now.region c.deref.result.now c.in_ok-desk.turn.view c.draw_workers.new.turn.view c.args.pass.now.view c.draw_workers.new.pass.view (subst (IsOrder (length c.args.ordered.now.tris.now)) (sym c.deref.ensures.value) c.args.ordered.now.each) c.in_ok-desk.ensures.2 c.draw_workers.ensures.served.served

pub returns-clause-few : goal.returns-clause-few
returns-clause-few g c = let s = (returns-clause-drawn g c).spent in let f = all_fragments_few (offsets_of c.args.ordered.now.pattern) c.args.ordered.now.region c.args.ordered.now.tris.now 0 in omega arith

pub returns-clause-endowment : goal.returns-clause-endowment
returns-clause-endowment g c = grows_endowment _ _ _ (returns-clause-drawn g c)

pub returns-clause-loose : goal.returns-clause-loose
returns-clause-loose g c = grows_loose _ _ _ (returns-clause-drawn g c)
