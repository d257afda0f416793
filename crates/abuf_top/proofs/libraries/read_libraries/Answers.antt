use Rattle.abuf_top.proofs.libraries.read_libraries.Goals as goal

pub returns-clause-none : goal.returns-clause-none
returns-clause-none g c = λ empty. (c.loop-name.invariant.none empty).0
