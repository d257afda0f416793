use Rattle.std.proofs.Common.{rules, arith, ◌+◌, ◌*◌, ◌∙◌, ℕ}
use Rattle.abuf_raster.specs.Samples.{offsets_of}
use Rattle.abuf_share.specs.declared.desk.TheConstants.{MAX_NUMBERS}
use Rattle.abuf_fan.specs.Workers.{HaveServed}
use Rattle.abuf_fan.proofs.Halves.{served_both}
use Rattle.abuf_fan.proofs.drawing.+draw_workers+fn-draw_workers-join_mut+arg2+fn-draw_workers-join_mut+arg3.Goals as goal

pub returns : goal.returns
returns g t c =
    let work = c.args.work.now in
    let moved : ℕ = c.split_first.result.1.count * (MAX_NUMBERS + 1) in
    let turns = c.requires.can.numbers in
    let counts = c.split_first.ensures in
    let a : HaveServed work c.split-other_turn.new.self c.turn-1.given.0 c.lend-other.new.pass c.pass-1.given.0 = search rules in
    let b : HaveServed work c.split-other_turn.result c.other_turn-2-1.given.0 c.lend-other.result c.other-2-1.given.0 = search rules in
    record {
      served = record {
        same_frame = c.join.ensures.frame ∙ (a.same_frame ∙ c.lend-other.ensures.left.0);
        same_desk = c.join-2.ensures.table ∙ (a.same_desk ∙ c.split-other_turn.ensures.left.0);
        served = served_both work.tris.now (offsets_of work.pattern) work.region work.order.now moved
            c.args.turn.now.view c.split-other_turn.new.self.view c.turn-1.given.0.view c.split-other_turn.result.view c.other_turn-2-1.given.0.view c.join-2.new.self.view
            c.args.pass.now.view c.lend-other.new.pass.view c.pass-1.given.0.view c.lend-other.result.view c.other-2-1.given.0.view c.join.new.self.view
            (omega arith) c.split-other_turn.ensures.left.1 c.split-other_turn.ensures.right.1 c.join-2.ensures.view c.join-2.ensures.each_once c.lend-other.ensures.views c.join.ensures.view a.served b.served;
      };
    }
