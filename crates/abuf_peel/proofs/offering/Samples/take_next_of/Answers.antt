use Rattle.std.proofs.Common.{◌≡◌, ◌∙◌, ap, take, sym, subst, arith}
use Rattle.std.proofs.lemmas.List.{with_items_is}
use Rattle.abuf_peel.specs.Members.{HaveLeft}
use Rattle.abuf_peel.specs.Seen.{seen_of}
use Rattle.abuf_peel.proofs.Left.{left_after}
use Rattle.abuf_peel.proofs.Taken.{none_later}
use Rattle.abuf_peel.proofs.offering.Samples.take_next_of.Goals as goal

pub returns-clause-none : goal.returns-clause-none
returns-clause-none c = λ e.
    let a = c.args in
    none_later a.drawn.now.tris.now a.drawn.now.paints.now (seen_of a.self.now a.from.now a.colours.now) c.offer_members-kept.new.best c.offer_members-kept.ensures.next c.take.new.from c.take.new.colours
    (omega (arith, a.drawn.now.few)) c.take.ensures.takes (c.take.ensures.none e)

pub returns-clause-members : goal.returns-clause-members
returns-clause-members c =
    let a = c.args in
    let kept : c.truncate.new.self.items ≡ take c.offer_members-kept.result c.offer_members-kept.new.members =
    c.truncate.ensures.items ∙ ap (take c.offer_members-kept.result) (with_items_is c.args.members.now c.offer_members-kept.new.members (c.offer_members-kept.ensures.size ∙ c.deref_mut.ensures.len)) in
    left_after a.drawn.now.tris.now a.drawn.now.paints.now 16 a.self.now.region a.self.now.pattern a.from.now c.take.new.from _ a.colours.now c.take.new.colours c.take.ensures.takes
    (subst (HaveLeft a.drawn.now.tris.now a.self.now.region a.self.now.pattern a.from.now) (sym kept) c.offer_members-kept.ensures.kept)
