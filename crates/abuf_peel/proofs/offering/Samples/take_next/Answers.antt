use Rattle.abuf_peel.specs.Seen.{seen_of}
use Rattle.abuf_peel.proofs.Taken.{none_left, some_left}
use Rattle.abuf_peel.proofs.offering.Samples.take_next.Goals as goal

pub returns-clause-none : goal.returns-clause-none
returns-clause-none c = λ e.
    let a = c.args in
    none_left a.drawn.now.tris.now a.drawn.now.paints.now (seen_of a.self.now a.from.now a.colours.now) c.offer_all.new.best c.offer_all.ensures (c.take.ensures.none e)

pub returns-clause-some : goal.returns-clause-some
returns-clause-some c = λ e.
    let a = c.args in
    some_left a.drawn.now.tris.now a.drawn.now.paints.now (seen_of a.self.now a.from.now a.colours.now) c.offer_all.new.best c.offer_all.ensures (c.take.ensures.some e)
