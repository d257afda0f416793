use Rattle.abuf_io.specs.Plans.{IsPlan}
use Rattle.abuf_rows.proofs.outside.bytewise.Given as goal

abbrev pub invariant-steps : goal.invariant-steps
invariant-steps l = IsPlan l.plan
