-- A `&` to the struct is one to its field. Assumes `Logic`.
use denote.SharingLaws.{nothing_shr_laws}
use denote.Struct.Lending.{of_Lends, Lends-nothing}
use Rattle.abuf_frame.specs.contracts.frozen_words.SyncTable as C
use Rattle.abuf_frame.proofs.Wrapping.{table_shared}
use Rattle.abuf_frame.proofs.frozen_words.SyncTable.TheLaw.Statement.{statement}

pub shares : statement
shares = of_Lends C.struct C.the_codes C.the_heap C.the_lent (λ d p. nothing_shr_laws) (table_shared, tt) (λ M 𝓤 𝓛 d p. Lends-nothing 𝓛 (C.the_heap d) C.the_row.lives)
