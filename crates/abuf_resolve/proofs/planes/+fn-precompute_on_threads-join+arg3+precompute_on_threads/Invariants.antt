use Rattle.abuf_resolve.proofs.planes.+fn-precompute_on_threads-join+arg3+precompute_on_threads.Given as goal

abbrev pub decreases-join+arg3 : goal.decreases-join+arg3
decreases-join+arg3 g l = l.left

abbrev pub decreases-precompute_on_threads : goal.decreases-precompute_on_threads
decreases-precompute_on_threads g l = l.threads
