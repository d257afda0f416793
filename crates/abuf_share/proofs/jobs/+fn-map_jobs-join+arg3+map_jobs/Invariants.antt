use Prim.Native.Nat.{◌+◌, ◌*◌}
use Rattle.abuf_share.proofs.jobs.+fn-map_jobs-join+arg3+map_jobs.Given as goal

abbrev pub decreases-map_jobs : goal.decreases-map_jobs
decreases-map_jobs g l = 2 * l.jobs.len

abbrev pub decreases-join+arg3 : goal.decreases-join+arg3
decreases-join+arg3 g l = 2 * l.jobs.len + 1
