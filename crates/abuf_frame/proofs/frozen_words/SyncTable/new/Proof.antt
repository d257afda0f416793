-- `new` puts the table into the struct. Assumes `Logic`.
use Rattle.atomic_table.proofs.Names.{◌≡◌, List, [], ◌∷◌, ◌++◌, refl, Val, SProp, emp, fsep, ‵, raw, ◌⊛◌, ◌$◌, ◌∵◌, !, qed, by, move, keep, split, fjoin, fpack, rewrite, use0, feq_i, of_opd, no_more, and_then, returns, enter, alloc_all, pass_all, free_all, look_at, get, sets, agg, tables, owns, Valss, types_at, plain, nothing, Stays, stay_dropped, walk_of, fact, fact_i, of_list, vstruct, WpFn}
use base.Fml.{feq}
use types.Kit.{prop, regoal}
use denote.Exit.{rest}
use denote.Param.{layout}
use denote.Triple.Entry.{alive}
use Rattle.atomic_table.proofs.Walks.{proved_at, leaves}
use Rattle.abuf_frame.proofs.Wrapping.{Table, Wrapped, table_laws, one, wrap, wrap_good, Goes-blank}
use Rattle.abuf_frame.specs.contracts.frozen_words.SyncTable.new.{ended, clauses}
use Rattle.abuf_frame.specs.contracts.frozen_words.SyncTable.new.Key.{name as #self}
use Rattle.abuf_frame.proofs.frozen_words.SyncTable.new.Statement.{statement}
use Rattle.abuf_frame.proofs.frozen_words.SyncTable.new.Code as code

pub new_spec : {M : Type 1} → statement M
new_spec 𝓤 𝓛 𝓜 𝓡 wired =
    let H = 𝓛.H in let 𝓣 = tables 𝓤 H 𝓜 𝓡 𝓡.env in let c = clauses 𝓛 𝓜.mem 𝓡.returns in let fn = code.function in let table = plain (λ _. Table) in
    let hs : Stays ended.signature.params ended.kept = (stay_dropped table ended.kept.0, tt) in
    proved_at 𝓛 ended hs c 𝓜 𝓡 (Goes-blank 𝓛 0 table ended.kept.0 (λ κs x f. tt), tt) #self fn (code.unfolded 𝓤 H 𝓜 𝓡 wired) (λ z are.
    let Post : Val → SProp 𝓤 = (walk_of 𝓛 ended hs c).post z in let x : Table.Denot = z.0.3.0 in let got = one (layout Table) z.0.4.0 ((table_laws.lawful 𝓛).typed x z.0.4.0 are.0) in
    let w : Val = got.0 in let r : Wrapped.Denot = record { table = x } in
    qed 𝓛 ((raw (alive 𝓛 ended.signature z.0.0 z.0.1) ⊛ ‵ (owns (types_at ended.signature.params z.0.0) z.0.3 z.0.4)) ∷ raw ((c z.0.0 z.0.3).requires z.1) ∷ []) ∵
    split ! $ keep ! (1 ∷ 0 ∷ []) $ rewrite ! 0 (λ (ws : List Val). ‵ (owns (Table ∷ []) (x, tt) (ws, tt))) got.1 refl $
    feq_i ! (List Val) (wrap w ∷ []) (wrap w ∷ []) refl $ fjoin ! $
    fpack ! (Valss (Table ∷ [])) (λ vss. fsep (feq (List Val) (wrap w ∷ []) (vstruct (of_list (vss.0 ++ [])) ∷ [])) (owns (Table ∷ []) (x, tt) vss)) (w ∷ [], tt) $ nothing ! $ move ! (1 ∷ 0 ∷ []) $ fjoin ! $
    regoal ! (λ (us : List Val). prop (WpFn 𝓤 H 𝓣.C 𝓣.Λ fn us Post)) (λ i. got.1 i ++ []) refl $
    enter ! 𝓣.C 𝓣.Λ fn (w ∷ []) Post $ alloc_all ! (λ l. pass_all ! refl (got.2, tt) $
    sets ! (of_opd ! (get ! refl)) refl got.2 $ sets ! (agg ! (and_then ! (get ! refl) (no_more !))) refl (wrap_good w got.2) $
    use0 𝓛 (raw (fact 𝓤 (x ≡ x))) (fact_i 𝓤 (x ≡ x) (emp 𝓤) refl) $ nothing ! $ nothing ! $ fjoin ! $
    returns ! (look_at ! 0 refl) $ free_all ! refl $ keep ! (3 ∷ 0 ∷ 2 ∷ 1 ∷ []) $ by ! (leaves 𝓛 ended hs c z (wrap w) r (rest (Table.exit ended.kept.0) x, tt) (tt, tt))))
