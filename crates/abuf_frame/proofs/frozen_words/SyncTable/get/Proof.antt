-- A `&` to the struct is one to its field, at its own place. Assumes `Logic`.
use Rattle.std.proofs.Common.{ℕ, ◌+◌, List, [], ◌∷◌, refl}
use seplogic.Ra.Ura.{Ura}
use mir.Syntax.{named}
use mir.Val.{Val, vptr}
use base.Logic.{SProp, ent, sep, emp, via, fst∗}
use base.Fml.{Lft, Share, ftrue, fhide, flft}
use prog.Memory.{Memory}
use prog.Routine.{Routine}
use prog.Wp.{Calls, Loops, WpFn, Tables}
use types.Logic.{Logic, sem}
use types.Kit.{‵, ◌⊛◌, ◌$◌, ◌∵◌, !, qed, by, move, keep, use1, drop, split, join, fsplit, fjoin, feq_i, suffices, frame, done}
use types.Run.{stop, fld, addr, returns, enter}
use types.ByLocal.{alloc_all, pass_all, free_all, look_at, through, sets}
use contract.Monad.{Fun}
use contract.Running.{tables, tables_of}
use sound.WpLaws.{WpFn-mono}
use denote.Exit.{yes}
use denote.RattleType.{RattleType, RowLaws, owns}
use denote.Memory.{hidden_shr}
use denote.Opens.{shr_dup, unhide, hide}
use denote.Ref.{Bor, ShrRef, shr_vals, shr_Tells}
use denote.Signature.{plain}
use denote.Steps.{nothing}
use denote.Struct.Struct.{Struct, Struct-row_laws}
use denote.Struct.Owning.{shape, to}
use denote.Struct.Lending.{lent_out}
use denote.Triple.Entry.{on_entry}
use denote.Triple.Spec.{Meets, triple_of}
use denote.Triple.Table.{entered}
use denote.Triple.Walked.{says, Stays, stay_none_ref, walk_of, ends_at, walked, Goes-none_ref, walk_Meets}
use Rattle.abuf_frame.proofs.Wrapping.{Table, Wrapped, table_shared}
use Rattle.abuf_frame.specs.contracts.frozen_words.SyncTable as Sync
use Rattle.abuf_frame.proofs.frozen_words.SyncTable.TheLaws as laws
use Rattle.abuf_frame.specs.contracts.frozen_words.SyncTable.get as F
use Rattle.abuf_frame.specs.contracts.frozen_words.SyncTable.get.Key.{name as #self}
use Rattle.abuf_frame.proofs.frozen_words.SyncTable.get.Statement as stated
use Rattle.abuf_frame.proofs.frozen_words.SyncTable.get.Code as code

abbrev Words : RattleType
Words = Struct (shape Sync.the_type)

words_laws : RowLaws Words
words_laws = Struct-row_laws (shape Sync.the_type) (table_shared.shr_laws, tt)

abbrev stayed : Stays (F.ended).signature.params (F.ended).kept
stayed = (stay_none_ref (0 ∷ []) tt (plain (λ _. Wrapped)) yes, tt)

module _ {M : Type 1} {𝓤 : Ura M} (𝓛 : Logic 𝓤) (at_mem : Memory → SProp 𝓤) (run : Routine → Fun 𝓤) where
  open 𝓛 use {H, A}

  module _ (κ : Lft) (q : Share) (b o : ℕ) (d : Wrapped.Denot) where
    abbrev self : Bor Wrapped.Denot
    self = record { ref_ptr = (b, o); now = d }

    abbrev bound : (walk_of 𝓛 F.ended stayed (F.clauses 𝓛 at_mem run)).Ghost
    bound = (((κ, tt), (q, tt), tt, (self, tt), (vptr b o ∷ [], tt)), tt)

    abbrev Post : Val → SProp 𝓤
    Post = (walk_of 𝓛 F.ended stayed (F.clauses 𝓛 at_mem run)).post bound

    abbrev fields : Words.Denot
    fields = to Sync.the_type d

    abbrev there : ℕ
    there = o + 0

    -- a `&` to the field
    shows_table : ent 𝓤 (sem 𝓛 (hidden_shr Words κ fields b o)) (sep 𝓤 (sem 𝓛 (hidden_shr Table κ d.table b there)) (sem 𝓛 (hidden_shr Words κ fields b o)))
    shows_table = qed 𝓛 (‵ (hidden_shr Words κ fields b o) ∷ []) ∵ shr_dup ! Words words_laws fields b o κ $ unhide ! $ fsplit ! $ fsplit ! $ hide ! $ keep ! (0 ∷ 3 ∷ []) $ done !

    exits : ent 𝓤 (sep 𝓤 (A.lft κ q) (sep 𝓤 (sem 𝓛 (hidden_shr Wrapped κ d b o)) (sem 𝓛 (hidden_shr Table κ d.table b there)))) (Post (vptr b there))
    exits =
        qed 𝓛 (‵ (flft κ q) ∷ ‵ (hidden_shr Wrapped κ d b o) ∷ ‵ (hidden_shr Table κ d.table b there) ∷ []) ∵
        suffices ! _ (ends_at 𝓛 F.ended stayed (F.clauses 𝓛 at_mem run) bound (vptr b there) (record { ref_ptr = (b, there); now = d.table }) (tt, tt) (tt, tt)) $ says ! refl $
        nothing ! $ move ! (1 ∷ 0 ∷ []) $ join ! $ frame ! $ feq_i ! (List Val) (vptr b o ∷ []) (vptr b o ∷ []) refl $ fjoin ! $ nothing ! $ move ! (1 ∷ 0 ∷ []) $ fjoin ! $
        move ! (1 ∷ []) $ feq_i ! (List Val) (vptr b there ∷ []) (vptr b there ∷ []) refl $ fjoin ! $ move ! (1 ∷ 0 ∷ []) $ done !

    module _ (C : Calls 𝓤 H) (Λ : Loops 𝓤 H) where
      walk : ent 𝓤 (on_entry 𝓛 F.signature (κ, tt) (q, tt) (self, tt) (vptr b o ∷ [], tt)) (WpFn 𝓤 H C Λ code.function (vptr b o ∷ []) Post)
      walk =
          qed 𝓛 ((‵ (flft κ q) ⊛ ‵ ftrue) ∷ ‵ (owns (ShrRef (named 0) κ Wrapped ∷ []) (self, tt) (vptr b o ∷ [], tt)) ∷ []) ∵ enter ! C Λ code.function (vptr b o ∷ []) _ $
          alloc_all ! (λ l. pass_all ! refl ((tt, tt), tt) $
          move ! (1 ∷ []) $ fsplit ! $ fsplit ! $ drop ! $ shr_dup ! Wrapped laws.the_row_laws.shr_laws d b o κ $
          use1 𝓛 (‵ (hidden_shr Words κ fields b o) ⊛ ‵ (fhide ftrue)) (lent_out 𝓛 Sync.struct Sync.the_codes Sync.the_heap Sync.the_lent κ d b o) $ split ! $
          use1 𝓛 (‵ (hidden_shr Table κ d.table b there) ⊛ ‵ (hidden_shr Words κ fields b o)) shows_table $ split ! $ move ! (5 ∷ []) $ split ! $
          sets ! (addr ! (through ! refl (fld ! refl (stop !)))) refl (tt, tt) $
          returns ! (look_at ! 0 refl) $ free_all ! refl $
          keep ! (0 ∷ 5 ∷ 2 ∷ []) $
          by ! exits)

  meets : (𝓣 : Tables 𝓤 H) → Meets 𝓛 F.signature (WpFn 𝓤 H 𝓣.C 𝓣.Λ code.function) (F.spec 𝓛 at_mem run)
  meets 𝓣 =
      walk_Meets 𝓛 F.ended stayed (Goes-none_ref 𝓛 1 (0 ∷ []) tt (plain (λ _. Wrapped)) yes, tt) (F.clauses 𝓛 at_mem run) (WpFn 𝓤 H 𝓣.C 𝓣.Λ code.function) (WpFn-mono 𝓤 H 𝓛.laws 𝓣 code.function)
      (walked 𝓛 F.ended stayed (F.clauses 𝓛 at_mem run) (WpFn 𝓤 H 𝓣.C 𝓣.Λ code.function) (λ κs. (shr_vals, tt)) (λ κs. (shr_Tells (named 0) κs.0 Wrapped, tt))
      (λ κs qs bounds a g are. via 𝓤 _ (fst∗ 𝓤 _ (emp 𝓤)) (walk κs.0 qs.0 a.0.ref_ptr.0 a.0.ref_ptr.1 a.0.now 𝓣.C 𝓣.Λ)))

pub get_spec : {M : Type 1} → stated.statement M
unfolding tables_of
get_spec 𝓤 𝓛 𝓜 𝓡 wired =
    let 𝓣 : Tables 𝓤 𝓛.H = tables_of 𝓤 𝓛.H 𝓜 (tables 𝓤 𝓛.H 𝓜 𝓡 𝓡.env) in
    entered 𝓤 𝓛.H (triple_of 𝓛 F.signature (F.spec 𝓛 𝓜.mem 𝓡.returns)) 𝓣.C 𝓣.Λ #self code.function (code.unfolded 𝓤 𝓛.H 𝓜 𝓡 wired) (meets 𝓛 𝓜.mem 𝓡.returns 𝓣)
