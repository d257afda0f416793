-- A `&` to a closed table is the same for every thread. The parts of its rows and leases are private to another library, so what a
-- `&` to each holds is gone through part by part.
use Rattle.std.specs.Prelude.{Bool, true, false, List, [], ◌∷◌}
use base.Fml.{Fml, ftrue}
use base.Fraction.{full_share}
use base.Shift.{Keyless}
use denote.RattleType.{RattleType}
use denote.RawPtr.{Ptr, block_ptr, null_ptr, block_of, count_of, in_block, lies_at, room_for, ◌+ₚ◌}
use mir.Syntax.{Ty}
use denote.Builtin.{RawPtr, u64, usize, unit}
use denote.Struct.Declared.{shape}
use denote.Param.Send.{IsSend, IsSync, Common, struct_send, struct_sync, whole-keyless, part_keyless, sendable}
use Rattle.std.specs.Mem.Slots.{slots_items, slots_filled, slots_len, slots_ptr}
use Rattle.std.specs.Mem.Slots.Ownership.{bytes_of, slots, slots_lent}
use Rattle.std.proofs.Crossing as heap
use Rattle.std.specs.contracts.alloc.Global.{the_row as Global}
use Rattle.std.specs.contracts.impls.GlobalAllocator.TheImpl.{ghosts}
use Rattle.atomic_table.specs.contracts.owned.Closed as Closed

-- that a pointer is one into a block
inside : (p : Ptr) → Keyless (in_block p ftrue)
inside (block_ptr b o) = tt
inside null_ptr = tt

-- what a `&` to a row's places holds, where a `&` to an element may be shared
places : (R : RattleType) → IsSync R → (p : Ptr) (xs : List R.Denot) (fs : List Bool) → Common (slots_lent R p xs fs)
places R y p [] fs κ = tt
places R y p (x ∷ xs) [] κ = tt
places R y p (x ∷ xs) (true ∷ fs) κ = ((inside p, y.shared x (block_of p) (count_of p) κ), places R y (p +ₚ bytes_of R) xs fs κ)
places R y p (x ∷ xs) (false ∷ fs) κ = (tt, places R y (p +ₚ bytes_of R) xs fs κ)

-- A `&` to a row is one to its pointer, to its length and to its places. One to a lease is a share of all of it, and the heap
-- takes a block back from any thread.
pub table_sync : IsSync (Closed.the_field unit Global ghosts).row
table_sync = let word : IsSync u64 = search sendable in let none : IsSync unit = search sendable in let pointer : IsSync RawPtr = search sendable in let count : IsSync usize = search sendable in
    struct_sync (shape (Closed.the_type unit Global ghosts)) (
      record { shared = λ d b o κ. (((pointer.shared (slots_ptr d) b _ κ, (count.shared (slots_len d) b _ κ, tt)), λ q. tt), (tt, places u64 word (slots_ptr d) (slots_items d) (slots_filled d) κ)) },
      (
        record { shared = λ d b o κ. (((pointer.shared (slots_ptr d) b _ κ, (count.shared (slots_len d) b _ κ, tt)), λ q. tt), (tt, places unit none (slots_ptr d) (slots_items d) (slots_filled d) κ)) },
        (
          record { shared = λ d b o κ q. whole-keyless _ _ (λ z vs. ((λ uss. (tt, (tt, ((tt, tt), ((λ wss. (tt, tt)), tt))))), heap.frees.frees _ _ _)) q d b o },
          (
            record { shared = λ d b o κ q. whole-keyless _ _ (λ z vs. ((λ uss. (tt, (tt, ((tt, tt), ((λ wss. (tt, tt)), tt))))), heap.frees.frees _ _ _)) q d b o },
            (heap.sync, tt),
          ),
        ),
      ),
    )

-- that a value, or room for one, lies at a pointer
lies : (R : RattleType) → IsSend R → (p : Ptr) (x : R.Denot) → Keyless (lies_at R full_share p x)
lies R s (block_ptr b o) x = part_keyless R s full_share x b o
lies R s null_ptr x = tt

room : (τ : Ty) (p : Ptr) → Keyless (room_for τ p)
room τ (block_ptr b o) = tt
room τ null_ptr = tt

within : (p : Ptr) (F : Fml) → Keyless F → Keyless (in_block p F)
within (block_ptr b o) F k = k
within null_ptr F k = tt

-- what a row's places hold, where an element may go to another thread
held : (R : RattleType) → IsSend R → (p : Ptr) (xs : List R.Denot) (fs : List Bool) → Keyless (slots R p xs fs)
held R s p [] fs = tt
held R s p (x ∷ xs) [] = tt
held R s p (x ∷ xs) (true ∷ fs) = (lies R s p x, held R s (p +ₚ bytes_of R) xs fs)
held R s p (x ∷ xs) (false ∷ fs) = (room _ p, held R s (p +ₚ bytes_of R) xs fs)

-- A row may go with its places, and the heap takes a block back from any thread.
pub table_send : IsSend (Closed.the_field unit Global ghosts).row
table_send = let word : IsSend u64 = search sendable in let none : IsSend unit = search sendable in
    struct_send (shape (Closed.the_type unit Global ghosts)) (
      record { owned = λ d vs. ((λ uss. (tt, (tt, ((tt, tt), tt)))), (tt, within (slots_ptr d) _ (held u64 word (slots_ptr d) (slots_items d) (slots_filled d)))); leaving = λ k d vs. tt },
      (
        record { owned = λ d vs. ((λ uss. (tt, (tt, ((tt, tt), tt)))), (tt, within (slots_ptr d) _ (held unit none (slots_ptr d) (slots_items d) (slots_filled d)))); leaving = λ k d vs. tt },
        (
          record { owned = λ d vs. ((λ uss. (tt, (tt, ((tt, tt), ((λ wss. (tt, tt)), tt))))), heap.frees.frees _ _ _); leaving = λ k d vs. tt },
          (
            record { owned = λ d vs. ((λ uss. (tt, (tt, ((tt, tt), ((λ wss. (tt, tt)), tt))))), heap.frees.frees _ _ _); leaving = λ k d vs. tt },
            (heap.send, tt),
          ),
        ),
      ),
    )
