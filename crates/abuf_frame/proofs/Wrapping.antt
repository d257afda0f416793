-- What the walks of `SyncTable` share: the type of its field, with its laws, and the machine values of both. Assumes `Logic`.
use Rattle.std.proofs.Common.{◌≡◌, ℕ, refl, T, List, [], ◌∷◌}
use seplogic.Ra.Ura.{Ura}
use base.Logic.{via}
use types.Logic.{Logic}
use contract.Lifetimes.{Lfts}
use denote.Exit.{Kept, Last, left}
use denote.Signature.{Slot}
use denote.Param.Mute.{blank, had}
use denote.Triple.Walked.{Goes, stay_dropped}
use mir.Syntax.{Ty}
use mir.Val.{Val, vstruct, vcons, vnil, has_ty, WT}
use denote.Builtin.{unit}
use denote.RattleType.{RattleType}
use denote.Laws.{Typed}
use denote.Param.{layout}
use denote.Param.Laws.{Laws, of_field}
use denote.Param.Shared.{Sharable, copy_shared}
use denote.Struct.Field.{unit-field}
use denote.Struct.Laws.{unit-laws, unit-copy}
use Rattle.std.proofs.ResultValues.{and_tt}
use Rattle.std.proofs.alloc.Global.TheLaws as heap
use Rattle.std.specs.contracts.alloc.Global.{the_row as Global}
use Rattle.std.specs.contracts.impls.GlobalAllocator.TheImpl.{ghosts}
use Rattle.atomic_table.specs.contracts.owned.Closed as Closed
use Rattle.atomic_table.proofs.owned.Closed.TheLaws as closed
use Rattle.abuf_frame.specs.contracts.frozen_words.SyncTable as Sync

-- The type of the table.
abbrev pub Table : RattleType
Table = Closed.the_row unit Global ghosts

-- The type of the struct around it.
abbrev pub Wrapped : RattleType
Wrapped = Sync.the_row

-- `()` has the laws of a type argument
unit_laws : Laws unit
unit_laws = of_field unit-field unit-laws refl (copy_shared unit-field unit-copy)

-- The laws of the table's type.
pub table_laws : Laws Table
table_laws = closed.the_row_laws unit Global ghosts unit_laws heap.the_row_laws

-- a `&` to the field is made of a borrow
pub table_shared : Sharable (Closed.the_field unit Global ghosts)
table_shared = closed.the_field_shared unit Global ghosts unit_laws heap.the_row_laws

-- What is asked of a table that is wrapped.
abbrev pub Good : Ty → Val → Type 0
Good τ v = T (has_ty τ v) × WT v

-- values of one machine type are one value
pub one : (τ : Ty) (vs : List Val) → Typed (τ ∷ []) vs → (v : Val) × (vs ≡ v ∷ []) × Good τ v
one τ [] t = absurd t
one τ (v ∷ []) t = (v, refl, t.0)
one τ (v ∷ u ∷ vs) t = absurd t.1

-- A table's value as that of the struct.
abbrev pub wrap : Val → Val
wrap v = vstruct (vcons v vnil)

-- the struct of a value of the field is one of the struct
pub wrap_good : (v : Val) → Good (layout Table) v → Good (layout Wrapped) (wrap v)
wrap_good v g = (and_tt (has_ty (layout Table) v) g.0, (g.1, tt))

-- an owner that is used up leaves nothing, where what its fields leave is nothing
pub Goes-blank : {M : Type 1} {𝓤 : Ura M} (𝓛 : Logic 𝓤) (n : ℕ) (s : Slot n) (k : Kept)
    → ((κs : Lfts n) (x : (s.row κs).Denot) (f : Last ((s.row κs).exit k) x) → T (blank (left ((s.row κs).exit k) x f))) → Goes 𝓛 n s k (stay_dropped s k)
Goes-blank {𝓤 = 𝓤} 𝓛 n s k is κs x f vs ok = via 𝓤 _ (had 𝓛 (left ((s.row κs).exit k) x f) (is κs x f)) (𝓛.laws.⇛_intro _)
