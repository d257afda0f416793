use Rattle.std.proofs.Common.{subst}
use Rattle.abuf_frame.specs.declared.view.View.{View}
use Rattle.abuf_frame.specs.Views.{Below}
use Rattle.abuf_frame.specs.Steps.{new_entries}
use Rattle.abuf_frame.proofs.Losing.{draws_lost, claimed_behind, full_grown}
use Rattle.abuf_frame.proofs.pass.Pass.lose.Goals as goal

pub returns-then-count-gt0-clause-draws : goal.returns-then-count-gt0-clause-draws
returns-then-count-gt0-clause-draws c = λ items long.
    let v = c.args.self.now.view in let nodes = c.args.frame.now.nodes in let first = c.claim.result in
    draws_lost nodes first c.args.count items v c.claim.new.self.view long c.requires.credit (claimed_behind nodes first v.entries c.requires.full c.claim.ensures.above) c.claim.ensures.view

pub returns-then-count-gt0-clause-full : goal.returns-then-count-gt0-clause-full
returns-then-count-gt0-clause-full c = λ b.
    let v = c.args.self.now.view in let nodes = c.args.frame.now.nodes in
    full_grown nodes v.entries (new_entries nodes c.claim.result c.args.count) c.requires.full (subst (λ (w : View). Below nodes w.entries) c.claim.ensures.view b)
