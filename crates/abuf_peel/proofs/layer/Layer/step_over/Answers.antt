use Rattle.std.proofs.Common.{◌≡◌, ◌∙◌, refl, sym, subst}
use Rattle.abuf_peel.specs.Members.{HaveLeft}
use Rattle.abuf_peel.specs.Layers.{NoneLeft, Peeled, peeled_of}
use Rattle.abuf_peel.proofs.Standing.{are_shown, same_parts, shown, takes_as}
use Rattle.abuf_peel.proofs.layer.Layer.step_over.Goals as goal
use Rattle.abuf_peel.proofs.layer.Layer.step_over.Goals.{After-take_next_of}

-- What is seen of the layer after the step is what the step wrote.
after : (c : After-take_next_of) → peeled_of c.self.inside.region c.self.inside.pattern c.take_next_of.new.from c.take_next_of.new.colours
    ≡ shown c.self.inside.region c.self.inside.pattern c.self.inside.from c.self.inside.colours c.take_next_of.new.from c.take_next_of.new.colours
after c = are_shown _ _ c.self.inside.from c.self.inside.colours _ _ (c.take_next_of.ensures.sizes.0 ∙ c.deref_mut.ensures.len) (c.take_next_of.ensures.sizes.2 ∙ c.deref_mut-3.ensures.len)

pub returns-clause-takes : goal.returns-clause-takes
returns-clause-takes c =
    let d = (goal.at.returns-clause-takes c).After-take_next_of in
    takes_as c.args.tris.now c.args.paints.now 16 _ _ _ _ (same_parts _ _ _ _ _ _ c.deref_mut.ensures.value d.deref_mut-3.ensures.value ∙ d.self.view_is) (after d) c.take_next_of.ensures.takes

pub returns-clause-none : goal.returns-clause-none
returns-clause-none c = λ e.
    let d = (goal.at.returns-clause-none c).After-take_next_of in
    subst (NoneLeft c.args.tris.now) (after d) (c.take_next_of.ensures.none e)

pub returns-clause-members : goal.returns-clause-members
returns-clause-members c =
    let d = (goal.at.returns-clause-members c).After-take_next_of in
    subst (λ (l : Peeled). HaveLeft c.args.tris.now l.region l.pattern l.from c.take_next_of.new.members.items) (after d) c.take_next_of.ensures.members

pub take_next_of-requires-clause-members : goal.take_next_of-requires-clause-members
take_next_of-requires-clause-members c =
    let parts : peeled_of c.self.inside.region c.self.inside.pattern c.deref_mut.result.now c.self.inside.colours.items ≡ c.args.self.now
    = same_parts _ _ _ _ _ _ c.deref_mut.ensures.value refl ∙ c.self.view_is in
    subst (λ (l : Peeled). HaveLeft c.args.tris.now l.region l.pattern l.from c.args.members.now.items) (sym parts) c.requires.members
