-- The numbers of the statuses, which are those of the process.
use Rattle.std.specs.Prelude.{ℕ}
use Rattle.abuf_top.specs.declared.status.Status.{Status}
use Rattle.abuf_top.specs.declared.status.Status.TheVariants as ended

abbrev pub status_number : Status → ℕ
status_number ended.Written = 0
status_number ended.Words = 2
status_number ended.Scene = 3
status_number ended.Library = 4
status_number ended.PoolFull = 5
status_number ended.ReadFault = 6
status_number ended.WriteFault = 7
status_number ended.Memory = 8
status_number ended.Path = 9
