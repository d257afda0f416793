-- The table comes out of the struct. Assumes `Logic`.
use Rattle.atomic_table.proofs.Names.{◌≡◌, List, [], ◌∷◌, ◌++◌, ◌∙◌, refl, Val, SProp, emp, ‵, raw, ◌⊛◌, ◌$◌, ◌∵◌, !, qed, by, keep, split, fsplit, fjoin, fpick, rewrite, use0, feq_l, of_opd, stop, fld, returns, enter, alloc_all, pass_all, free_all, look_at, get, get_in, sets, sub, whole, tables, owns, types_at, plain, nothing, Stays, stay_dropped, walk_of, fact, fact_i, of_list, vstruct, WpFn, Is, shows, peeks}
use types.Kit.{prop, regoal}
use denote.Exit.{rest}
use denote.Param.{layout}
use denote.Triple.Entry.{alive}
use Rattle.atomic_table.proofs.Walks.{proved_at, leaves}
use Rattle.abuf_frame.proofs.Wrapping.{Table, Wrapped, table_laws, one, wrap, wrap_good, Goes-blank}
use Rattle.abuf_frame.specs.contracts.frozen_words.SyncTable.into_table.{ended, clauses}
use Rattle.abuf_frame.specs.contracts.frozen_words.SyncTable.into_table.Key.{name as #self}
use Rattle.abuf_frame.proofs.frozen_words.SyncTable.into_table.Statement.{statement}
use Rattle.abuf_frame.proofs.frozen_words.SyncTable.into_table.Code as code

pub into_table_spec : {M : Type 1} → statement M
into_table_spec 𝓤 𝓛 𝓜 𝓡 wired =
    let H = 𝓛.H in let 𝓣 = tables 𝓤 H 𝓜 𝓡 𝓡.env in let c = clauses 𝓛 𝓜.mem 𝓡.returns in let fn = code.function in let self = plain (λ _. Wrapped) in
    let hs : Stays ended.signature.params ended.kept = (stay_dropped self ended.kept.0, tt) in
    proved_at 𝓛 ended hs c 𝓜 𝓡 (Goes-blank 𝓛 0 self ended.kept.0 (λ κs x f. tt), tt) #self fn (code.unfolded 𝓤 H 𝓜 𝓡 wired) (λ z are.
    let Post : Val → SProp 𝓤 = (walk_of 𝓛 ended hs c).post z in let x : Table.Denot = z.0.3.0.table in
    qed 𝓛 ((raw (alive 𝓛 ended.signature z.0.0 z.0.1) ⊛ ‵ (owns (types_at ended.signature.params z.0.0) z.0.3 z.0.4)) ∷ raw ((c z.0.0 z.0.3).requires z.1) ∷ []) ∵
    split ! $ keep ! (1 ∷ 0 ∷ []) $ fsplit ! $ fsplit ! $ fpick ! (λ vss. fsplit ! $ feq_l ! (λ e. fsplit ! $ peeks ! Table (Is Table) (shows 𝓛 Table) x vss.0 (λ so.
    let got = one (layout Table) vss.0 ((table_laws.lawful 𝓛).typed x vss.0 so) in let w : Val = got.0 in
    rewrite ! 0 (λ (ws : List Val). ‵ (Table.own_val x ws)) got.1 refl $ keep ! (0 ∷ 4 ∷ []) $
    regoal ! (λ (us : List Val). prop (WpFn 𝓤 H 𝓣.C 𝓣.Λ fn us Post)) (λ i. (e ∙ (λ j. vstruct (of_list (got.1 j ++ [])) ∷ [])) i ++ []) refl $
    enter ! 𝓣.C 𝓣.Λ fn (wrap w ∷ []) Post $ alloc_all ! (λ l. pass_all ! refl (wrap_good w got.2, tt) $
    sets ! (of_opd ! (get_in ! (fld ! refl (stop !)) (sub ! 0 refl (whole !)))) refl got.2 $ sets ! (of_opd ! (get ! refl)) refl got.2 $
    use0 𝓛 (raw (fact 𝓤 (x ≡ x))) (fact_i 𝓤 (x ≡ x) (emp 𝓤) refl) $ nothing ! $ nothing ! $ fjoin ! $
    returns ! (look_at ! 0 refl) $ free_all ! refl $ keep ! (3 ∷ 0 ∷ 2 ∷ 1 ∷ []) $ by ! (leaves 𝓛 ended hs c z w x (rest (Wrapped.exit ended.kept.0) z.0.3.0, tt) (tt, tt)))))))
