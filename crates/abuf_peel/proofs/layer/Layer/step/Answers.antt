use Rattle.std.proofs.Common.{◌≡◌, ◌∙◌, ◌+◌, ℕ, suc, subst, arith}
use Rattle.abuf_peel.specs.Layers.{NoneLeft, Peeled, SomeLeft, StandsFor, TakesTimes, peeled_of}
use Rattle.abuf_peel.proofs.Standing.{are_shown, same_parts, shown, stands_times, takes_as}
use Rattle.abuf_peel.proofs.layer.Layer.step.Goals as goal
use Rattle.abuf_peel.proofs.layer.Layer.step.Goals.{After-take_next}

-- What the parts of the layer show is what was seen of it.
seen : (c : After-take_next) → peeled_of c.self.inside.region c.self.inside.pattern c.deref_mut.result.now c.deref_mut-3.result.now ≡ c.args.self.now
seen c = same_parts _ _ _ _ _ _ c.deref_mut.ensures.value c.deref_mut-3.ensures.value ∙ c.self.view_is

-- What is seen of it after the step.
abbrev new : (c : After-take_next) → Peeled
new c = shown c.self.inside.region c.self.inside.pattern c.self.inside.from c.self.inside.colours c.take_next.new.from c.take_next.new.colours

-- Every sample takes its next primitive.
takes : (c : After-take_next) → TakesTimes c.args.tris.now c.args.paints.now 1 c.args.self.now (new c)
takes c = takes_as c.args.tris.now c.args.paints.now 1 _ _ _ _ (seen c) (are_shown _ _ c.self.inside.from c.self.inside.colours _ _ (c.take_next.ensures.sizes.0 ∙ c.deref_mut.ensures.len) (c.take_next.ensures.sizes.2 ∙ c.deref_mut-3.ensures.len)) c.take_next.ensures.takes

pub returns-clause-takes : goal.returns-clause-takes
returns-clause-takes c = let t = takes ((goal.at.returns-clause-takes c).After-take_next) in record { region = t.region; pattern = t.pattern; each = t.each }

pub returns-clause-none : goal.returns-clause-none
returns-clause-none c = λ e.
    let d = (goal.at.returns-clause-none c).After-take_next in
    subst (NoneLeft c.args.tris.now) (seen d) (c.take_next.ensures.none e)

pub returns-clause-layers : goal.returns-clause-layers
returns-clause-layers c = λ background n p.
    let d = (goal.at.returns-clause-layers c).After-take_next in
    let next : n + 1 ≡ suc n = omega arith in
    subst (λ (m : ℕ). StandsFor background c.args.tris.now c.args.paints.now m (new d)) next (stands_times background c.args.tris.now c.args.paints.now n 1 c.args.self.now (new d) (takes d) p)

pub returns-clause-some : goal.returns-clause-some
returns-clause-some c = λ e.
    let d = (goal.at.returns-clause-some c).After-take_next in
    subst (SomeLeft c.args.tris.now) (seen d) (c.take_next.ensures.some e)
