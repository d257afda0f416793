use denote.Param.Send.{IsSend, struct_send}
use denote.Struct.Owning.{shape, to}
use Rattle.abuf_frame.proofs.Crosses.{table_send}
use Rattle.abuf_frame.specs.contracts.frozen_words.SyncTable.{the_row, the_type}

pub send : IsSend the_row
send = record { owned = λ d vs. ((struct_send (shape the_type) (table_send, tt)).owned (to the_type d) vs, tt); leaving = λ k d vs. ((tt, (tt, (tt, (tt, tt)))), tt) }
