use Rattle.std.proofs.Common.{◌≡◌, ◌≤◌, ◌^◌, rules, ap, arith, subst, ◌∙◌, []}
use Rattle.abuf_frame.specs.Steps.{united}
use Rattle.abuf_frame.specs.Views.{endowment, loose}
use Rattle.abuf_frame.specs.Pass.{Ties}
use Rattle.abuf_frame.proofs.Claims.{loose_le}
use Rattle.abuf_frame.proofs.Shares.{joins, weighs, ties_united}
use Rattle.abuf_frame.proofs.Draws.{loose-append}
use Rattle.abuf_frame.proofs.pass.Pass.join.Goals as goal

pub join_seat-requires : goal.join_seat-requires
join_seat-requires c = (search rules, search rules, c.other.invariant.bare, search rules, joins c.frame.inside.table.shared.key _ _ c.self.inside.seat.me.0 c.other.inside.seat.me.0)

pub count_at-requires : goal.count_at-requires
count_at-requires c = (search rules, search rules, weighs c.frame.inside.table.shared.key _ _ c.join_seat.new.seat.me (ap (λ m. m.1) c.join_seat.ensures.2 ∙ c.self.invariant.bare))

pub overflow_add-self-3 : goal.overflow_add-self-3
overflow_add-self-3 c = let a = loose_le c.self.inside.seat.me.0.entries in let b = loose_le c.other.inside.seat.me.0.entries in let t = c.self.invariant in let u = c.other.invariant in omega arith

pub invariant_of-self : goal.invariant_of-self
invariant_of-self c = let is = ap (λ m. m.0) c.join_seat.ensures.2 in
    let fit : endowment (united c.self.inside.seat.me.0 c.other.inside.seat.me.0) ≤ 2 ^ 60 = subst (λ v. endowment v ≤ 2 ^ 60) is c.count_at.ensures.3 in
    let now : c.count_at.new.seat.me ≡ (united c.self.inside.seat.me.0 c.other.inside.seat.me.0, []) = c.count_at.ensures.2 ∙ λ i. (is i, []) in
    let other : Ties c.self.inside.pixels c.self.inside.nodes c.other.inside.seat.me c.other.inside.credit c.other.inside.own c.other.inside.loose = search rules in
    ties_united _ _ c.self.inside.seat.me c.other.inside.seat.me c.count_at.new.seat.me _ _ _ _ _ _ c.self.invariant other now fit

pub returns-clause-loose : goal.returns-clause-loose
returns-clause-loose c = let e : c.count_at.new.seat.me.0 ≡ united c.args.self.now.view c.args.other.view = search rules in ap (λ v. loose v.entries) e ∙ loose-append c.args.self.now.view.entries c.args.other.view.entries
