use Rattle.std.proofs.Common.{rules, ℕ, ◌<◌, ◌≤◌, ◌+◌, ◌∙◌, ap, sym, subst, length, refl, get_or}
use Rattle.std.proofs.lemmas.List.{nil_from_length, get_or_default}
use Rattle.abuf_frame.proofs.Runs.{Run, no_run, run_claimed, run_sets, run_loses, run_ends}
use Rattle.abuf_frame.proofs.Draws.{draws_endowment, draws_from, draws_loose}
use Rattle.abuf_frame.proofs.Losing.{full_after}
use Rattle.abuf_frame.proofs.pass.Pass.insert_each.Goals as goal
use Rattle.abuf_frame.proofs.pass.Pass.insert_each.Goals.{then-number-nodes, else-number-nodes}

pub returns-then-is_empty-clause-order : goal.returns-then-is_empty-clause-order
returns-then-is_empty-clause-order c = no_run c.args.items.now c.args.self.now.view (nil_from_length c.args.items.now (search rules))

pub returns-then-is_empty-clause-draws : goal.returns-then-is_empty-clause-draws
returns-then-is_empty-clause-draws c = draws_from c.args.items.now c.args.self.now.view c.args.self.now.view c.requires.credit (returns-then-is_empty-clause-order c)

pub set_in-requires-clause-claimed : goal.set_in-requires-clause-claimed
set_in-requires-clause-claimed c = let inv = c.loop-i.invariant in let small : c.claim-first.result + c.loop-i.i < c.args.frame.now.nodes = search rules in
    run_claimed _ _ _ c.args.items.now c.args.self.now.view refl inv.2 c.loop-i.i c.loop-i.self.view inv.3 (search rules) small

pub loop-i-preserved : goal.loop-i-preserved
loop-i-preserved c = let inv = c.loop-i.invariant in elim c.if-number-nodes.branch [
  | then-number-nodes w ↦ let x : ℕ × ℕ = get_or c.args.items.now c.loop-i.i (0, 0) in let small : c.claim-first.result + c.loop-i.i < c.args.frame.now.nodes = search rules in let new = w.set_in.ensures in (
    ap (λ h. h.frame) w.self-is ∙ (new.frame ∙ inv.0),
    inv.1,
    inv.2,
    subst (λ v. Run c.args.frame.now.nodes c.claim-first.result (length c.args.items.now) c.args.items.now (c.loop-i.i + 1) c.args.self.now.view v) (sym (ap (λ h. h.view) w.self-is))
        (run_sets _ _ _ c.args.items.now c.args.self.now.view refl inv.2 c.loop-i.i c.loop-i.self.view inv.3 (search rules) x new.view.0 w.set_in.new.self.view (get_or_default c.args.items.now c.loop-i.i (0, 0) x (search rules)) small new.view.1),
  )
  | else-number-nodes w ↦ let x : ℕ × ℕ = get_or c.args.items.now c.loop-i.i (0, 0) in let big : c.args.frame.now.nodes ≤ c.claim-first.result + c.loop-i.i = search rules in (
    ap (λ h. h.frame) w.self-is ∙ inv.0,
    inv.1,
    inv.2,
    subst (λ v. Run c.args.frame.now.nodes c.claim-first.result (length c.args.items.now) c.args.items.now (c.loop-i.i + 1) c.args.self.now.view v) (sym (ap (λ h. h.view) w.self-is))
        (run_loses _ _ _ c.args.items.now c.args.self.now.view refl inv.2 c.loop-i.i c.loop-i.self.view inv.3 (search rules) x (get_or_default c.args.items.now c.loop-i.i (0, 0) x (search rules)) big),
  )
]

pub returns-clause-order : goal.returns-clause-order
returns-clause-order c =
    let r = run_ends c.args.frame.now.nodes c.claim-first.result (length c.args.items.now) c.args.items.now c.args.self.now.view refl c.loop-i.invariant.2 c.loop-i.i c.loop-i.self.view (search rules) c.loop-i.invariant.3 in
    (c.claim-first.result, r.0, r.1, r.2)

pub returns-clause-draws : goal.returns-clause-draws
returns-clause-draws c = draws_from c.args.items.now c.args.self.now.view c.loop-i.self.view c.requires.credit (returns-clause-order c)

pub returns-clause-endowment : goal.returns-clause-endowment
returns-clause-endowment c = draws_endowment _ _ _ (returns-clause-draws c)

pub returns-clause-loose : goal.returns-clause-loose
returns-clause-loose c = draws_loose _ _ _ (returns-clause-draws c)

pub returns-clause-full : goal.returns-clause-full
returns-clause-full c = λ more.
    let r = run_ends c.args.frame.now.nodes c.claim-first.result (length c.args.items.now) c.args.items.now c.args.self.now.view refl c.loop-i.invariant.2 c.loop-i.i c.loop-i.self.view (search rules) c.loop-i.invariant.3 in
    let some : 0 < length c.args.items.now = search rules in
    let behind : c.args.frame.now.nodes < c.claim-first.result + length c.args.items.now = search (rules, more) in
    full_after c.args.frame.now.nodes c.claim-first.result c.args.items.now r.0 c.args.self.now.view c.loop-i.self.view r.1 r.2 some behind
