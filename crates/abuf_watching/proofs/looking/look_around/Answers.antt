use Rattle.std.proofs.Common.{◌∙◌, ℕ, refl, subst}
use Rattle.abuf_watching.specs.Looking.{LooksOnce, turn_at}
use Rattle.abuf_watching.specs.declared.looking.TheConstants.{ROOM}
use Rattle.abuf_watching.proofs.Around.{looks_more, looks_none}
use Rattle.abuf_watching.proofs.looking.look_around.Goals as goal

pub loop-turn-init : goal.loop-turn-init
loop-turn-init c = record {
  same = c.count-first.ensures.frame;
  room = refl;
  looked = looks_none ROOM c.args.places.now c.count-first.result c.args.pass.now.view c.count-first.new.self.view c.count-first.ensures.view c.count-first.ensures.seen;
}

pub loop-turn-preserved : goal.loop-turn-preserved
loop-turn-preserved c =
    let places = c.args.places.now in
    let i = c.loop-turn.invariant in
    let look = c.look_once.ensures.look in
    let once : LooksOnce ROOM (turn_at places c.loop-turn.turn) look.0 c.loop-turn.pass.view c.look_once.new.pass.view c.loop-turn.looks c.look_once.new.looks =
    subst (λ (room : ℕ). LooksOnce room (turn_at places c.loop-turn.turn) look.0 c.loop-turn.pass.view c.look_once.new.pass.view c.loop-turn.looks c.look_once.new.looks) i.room look.1 in
    record {
      same = c.look_once.ensures.frame ∙ i.same;
      room = c.look_once.ensures.room ∙ i.room;
      looked = looks_more ROOM places c.loop-turn.turn look.0 c.args.pass.now.view c.loop-turn.pass.view c.look_once.new.pass.view c.loop-turn.looks c.look_once.new.looks i.looked once;
    }
