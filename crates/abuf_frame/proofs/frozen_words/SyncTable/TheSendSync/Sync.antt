use denote.Struct.Owning.{shape, to}
use denote.Param.Send.{IsSync, struct_sync}
use Rattle.abuf_frame.proofs.Crosses.{table_sync}
use Rattle.abuf_frame.specs.contracts.frozen_words.SyncTable.{the_row, the_type}

pub sync : IsSync the_row
sync = record { shared = λ d b o κ. ((struct_sync (shape the_type) (table_sync, tt)).shared (to the_type d) b o κ, tt) }
