use Rattle.abuf_fan.proofs.bound.+bound_on_threads+fn-bound_on_threads-join+arg2+fn-bound_on_threads-join+arg3.Given as goal

abbrev pub decreases-bound_on_threads : goal.decreases-bound_on_threads
decreases-bound_on_threads g l = l.threads

abbrev pub decreases-join+arg2 : goal.decreases-join+arg2
decreases-join+arg2 g l = l.left

abbrev pub decreases-join+arg3 : goal.decreases-join+arg3
decreases-join+arg3 g l = l.right
