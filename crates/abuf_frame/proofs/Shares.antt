-- A pass is cut in two, two are joined, and the counter is read.
use Rattle.std.proofs.Common.{◌≡◌, ◌≢◌, ℕ, ◌+◌, ◌^◌, ◌<◌, ◌≤◌, cond, false, true≢false, List, [], ◌∷◌, ◌++◌, map, length, set, sym, refl, ap, ◌∙◌, subst, arith, ⊎_elim, length-append, slice_index, sum_by}
use mathlib.Core.Option.{some}
use mathlib.Core.List.{map-append}
use lib.ListN.{get_elem?}
use lib.Seq.{set-get_or}
use Rattle.std.proofs.lemmas.List.Sums.{sum_by-append}
use Rattle.std.proofs.lemmas.Bool.{cases_lt}
use Rattle.atomic_table.specs.Table.{Me, keeps, stepped, Allows, Splits, Joins}
use Rattle.atomic_table.proofs.Lists.{at_set, at_snoc}
use Rattle.abuf_frame.specs.declared.view.Stage.{Stage}
use Rattle.abuf_frame.specs.declared.view.Entry.{Entry}
use Rattle.abuf_frame.specs.declared.view.Walk.{Walk}
use Rattle.abuf_frame.specs.declared.view.View.{View}
use Rattle.abuf_frame.specs.declared.view.FrameSize.{FrameSize}
use Rattle.abuf_num.specs.Counting.{times}
use Rattle.abuf_frame.specs.Views.{Below, endowment, linked_of, number_of, numbers, spent_view}
use Rattle.abuf_frame.specs.Lawful.{Agree, AreWalks, Lawful, Told}
use Rattle.abuf_frame.specs.Stages.{is_linked, is_loose}
use Rattle.abuf_frame.specs.Steps.{split_left, split_right, having_seen, united}
use Rattle.abuf_frame.specs.Walks.{with_walk}
use Rattle.abuf_frame.specs.Pass.{Ties}
use Rattle.abuf_num.proofs.Counting.{sum_set, sum_le, times-append}
use Rattle.abuf_frame.proofs.Claims.{St, all-append, all-filter, all_below, all_more, at_first, unclaimed, views_set}
use Rattle.abuf_frame.proofs.Ends.{count_mine}

-- Linked entries may be told of.
pub told_linked : (stage : ℕ → Stage) (es : List Entry) → Agree stage es → Told stage (linked_of es)
told_linked stage es a = all-filter _ (λ (e : Entry). is_linked e.stage) es a

-- the same words, and other views
module _ (k : FrameSize) (s : St) (r : Lawful k s) where
  -- A state stays lawful with other views of the same numbers, entries and endowment.
  other_views : (vs : List View) → ((n : ℕ) → sum_by (λ v. times n (numbers v)) vs ≡ sum_by (λ v. times n (numbers v)) s.views) → sum_by (λ v. length v.entries) vs ≡ sum_by (λ v. length v.entries) s.views
      → sum_by endowment vs ≡ sum_by endowment s.views → ((j : ℕ) (v : View) → get_elem? vs j ≡ some v → Agree r.stage v.entries × Told r.stage v.told × (v.seen ≤ slice_index s.words 0) × AreWalks r.stage r.chain k.pixels v.walks)
      → Lawful k record { words = s.words; homes = s.homes; views = vs }
  other_views vs o c e each = record {
    stage = r.stage;
    chain = r.chain;
    wide = r.wide;
    once = λ n. o n ∙ r.once n;
    counted = c ∙ r.counted;
    endowed = e ∙ r.endowed;
    agree = λ j v at. (each j v at).0;
    told = λ j v at. (each j v at).1;
    seen = λ j v at. (each j v at).2;
    walked = λ j v at. (each j v at).3;
    fresh = r.fresh;
    lost = r.lost;
    kept = r.kept;
    payload = r.payload;
    next = r.next;
    head = r.head;
    follows = r.follows;
    exact = r.exact;
  }

  -- What the state asks of each view.
  abbrev Fits : View → Type 0
  Fits v = Agree r.stage v.entries × Told r.stage v.told × (v.seen ≤ slice_index s.words 0) × AreWalks r.stage r.chain k.pixels v.walks

  -- Each view has that.
  fits : (j : ℕ) (v : View) → get_elem? s.views j ≡ some v → Fits v
  fits j v at = (r.agree j v at, r.told j v at, r.seen j v at, r.walked j v at)

-- A view may be split.
pub splits : (k : FrameSize) (id credit : ℕ) (v : View) → credit ≤ v.credit → Splits (Lawful k) id v (split_left credit v) (split_right credit v)
splits k id credit v enough s r at = let l : View = split_left credit v in let w : View = split_right credit v in let vs : List View = set s.views id l in let mine = fits k s r id v at in
    other_views k s r (vs ++ w ∷ [])
    (λ n. let a = sum_by-append (λ (u : View). times n (numbers u)) vs (w ∷ []) in let b = sum_set (λ (u : View). times n (numbers u)) s.views id v l at in omega arith)
    (let a = sum_by-append (λ (u : View). length u.entries) vs (w ∷ []) in let b = sum_set (λ (u : View). length u.entries) s.views id v l at in omega arith)
    (let a = sum_by-append endowment vs (w ∷ []) in let b = sum_set endowment s.views id v l at in omega arith)
    (λ j u e. ⊎_elim (λ (h : get_elem? vs j ≡ some u). views_set (Fits k s r) s.views id l mine (λ i x _. fits k s r i x) j u h)
    (λ (h : w ≡ u). subst (Fits k s r) h (tt, all-append _ (linked_of v.entries) v.told (told_linked r.stage v.entries mine.0) mine.1, mine.2, tt)) (at_snoc vs w u j e))

-- Two views may be joined.
pub joins : (k : FrameSize) (id other : ℕ) (v w : View) → Joins (Lawful k) id v other w (united v w) spent_view
joins k id other v w s r at apart at' = let b : View = united v w in let vs : List View = set s.views id b in
    let was : get_elem? s.views other ≡ some w = ⊎_elim (λ (x : (other ≡ id) × (b ≡ w)). absurd (apart x.0)) (λ (x : (other ≢ id) × (get_elem? s.views other ≡ some w)). x.1) (at_set s.views id other b w at') in
    let mine = fits k s r id v at in let theirs = fits k s r other w was in let len = length-append v.entries w.entries in
    other_views k s r (set vs other spent_view)
    (λ n. let p = sum_set (λ (u : View). times n (numbers u)) s.views id v b at in let q = sum_set (λ (u : View). times n (numbers u)) vs other w spent_view at' in
    let m = ap (times n) (map-append number_of v.entries w.entries) in let t = times-append n (numbers v) (numbers w) in omega arith)
    (let p = sum_set (λ (u : View). length u.entries) s.views id v b at in let q = sum_set (λ (u : View). length u.entries) vs other w spent_view at' in omega arith)
    (let p = sum_set endowment s.views id v b at in let q = sum_set endowment vs other w spent_view at' in omega arith)
    (views_set (Fits k s r) vs other spent_view (tt, tt, omega arith, tt)
    (λ j u _. views_set (Fits k s r) s.views id b (all-append _ v.entries w.entries mine.0 theirs.0, all-append _ v.told w.told mine.1 theirs.1, (let x = mine.2 in let y = theirs.2 in omega arith), all-append _ v.walks w.walks mine.3 theirs.3) (λ i x _. fits k s r i x) j u))

-- What was told of is below the counter.
told_below : (k : FrameSize) (s : St) (r : Lawful k s) (es : List Entry) → Told r.stage es → Below (slice_index s.words 0) es
told_below k s r es t = all_more _ (λ e h. ⊎_elim (λ (g : e.number < slice_index s.words 0). g)
    (λ (g : slice_index s.words 0 ≤ e.number). absurd (true≢false (sym h.1 ∙ (ap is_linked (h.0 ∙ unclaimed k s r e.number g) ∙ at_first (λ y. is_linked y ≡ false) refl refl k.nodes e.number)))) (cases_lt e.number (slice_index s.words 0))) es t

-- a load of the word i, after which the view is w, which has the same entries, told entries and credit
pub looks : (k : FrameSize) (s : St) (r : Lawful k s) (id i : ℕ) (me : Me (Unit {0}) View) (w : View) → get_elem? s.views id ≡ some me.0 → w.credit ≡ me.0.credit → w.entries ≡ me.0.entries → w.told ≡ me.0.told → w.seen ≤ slice_index s.words 0 → AreWalks r.stage r.chain k.pixels w.walks
    → Lawful k (stepped s i (slice_index s.words i) id me.1 w keeps)
looks k s r id i me w at credit entries told seen walked = let v = me.0 in let mine = fits k s r id v at in let len = ap (λ (es : List Entry). length es) entries in
    subst (λ (ws : List ℕ). Lawful k record { words = ws; homes = s.homes; views = set s.views id w }) (sym (set-get_or s.words i 0))
    (other_views k s r (set s.views id w)
    (λ n. let p = sum_set (λ (u : View). times n (numbers u)) s.views id v w at in let e = ap (λ (es : List Entry). times n (map number_of es)) entries in omega arith)
    (let p = sum_set (λ (u : View). length u.entries) s.views id v w at in omega arith)
    (let p = sum_set endowment s.views id v w at in omega arith)
    (views_set (Fits k s r) s.views id w (subst (Agree r.stage) (sym entries) mine.0, subst (Told r.stage) (sym told) mine.1, seen, walked) (λ j u _. fits k s r j u)))

-- A load of the counter is allowed, and shows what is below it.
pub counts : (k : FrameSize) (slots id : ℕ) (me : Me (Unit {0}) View) → me.1 ≡ []
    → Allows (Lawful k) slots id me 0 (λ n. n) (λ found now. (now ≡ (having_seen found me.0, [])) × ((me.0.seen ≤ found) × Below found me.0.entries × Below found me.0.told × (endowment me.0 ≡ 2 ^ 60 → found ≡ length me.0.entries)))
counts k slots id me bare s r deep at small = let c : ℕ = slice_index s.words 0 in (
  having_seen c me.0,
  keeps,
  tt,
  looks k s r id 0 me (having_seen c me.0) at refl refl refl (omega arith) (r.walked id me.0 at),
  ((λ i. (having_seen c me.0, bare i)), (r.seen id me.0 at, all_below k s r id me.0 at, told_below k s r me.0.told (r.told id me.0 at), λ whole. sym (count_mine k s r id me.0 at whole))),
)

-- a load that shows the bound of the endowment
pub weighs : (k : FrameSize) (slots id : ℕ) (me : Me (Unit {0}) View) → me.1 ≡ []
    → Allows (Lawful k) slots id me 0 (λ n. n) (λ found now. (now ≡ (me.0, [])) × (endowment me.0 ≤ 2 ^ 60))
weighs k slots id me bare s r deep at small = (
  me.0,
  keeps,
  tt,
  looks k s r id 0 me me.0 at refl refl refl (r.seen id me.0 at) (r.walked id me.0 at),
  ((λ i. (me.0, bare i)), let t = sum_le endowment s.views id me.0 at in let e = r.endowed in omega arith),
)

-- What ties a pass to its view holds after a join.
pub ties_united : (pixels nodes : ℕ) (me other now : Me (Unit {0}) View) (credit own ones credit' own' ones' : ℕ) → Ties pixels nodes me credit own ones → Ties pixels nodes other credit' own' ones'
    → now ≡ (united me.0 other.0, []) → endowment (united me.0 other.0) ≤ 2 ^ 60 → Ties pixels nodes now (credit + credit') (own + own') (ones + ones')
ties_united pixels nodes me other now credit own ones credit' own' ones' t u is fit = subst (λ (m : Me (Unit {0}) View). Ties pixels nodes m (credit + credit') (own + own') (ones + ones')) (sym is)
    (let len = length-append me.0.entries other.0.entries in let a = t.credit_is in let b = u.credit_is in let c = t.own_is in let d = u.own_is in let e = t.loose_is in let f = u.loose_is in
    let l = sum_by-append (λ (e : Entry). cond (is_loose e.stage) 1 0) me.0.entries other.0.entries in record {
      bare = refl;
      credit_is = omega arith;
      own_is = omega arith;
      loose_is = omega arith;
      small = fit;
      sound = all-append _ me.0.entries other.0.entries t.sound u.sound;
    })

-- It holds after a look.
pub ties_walk : (pixels nodes : ℕ) (me now : Me (Unit {0}) View) (credit own ones : ℕ) (w : Walk) → Ties pixels nodes me credit own ones → now ≡ (with_walk w me.0, []) → Ties pixels nodes now credit own ones
ties_walk pixels nodes me now credit own ones w t is = subst (λ (m : Me (Unit {0}) View). Ties pixels nodes m credit own ones) (sym is)
    record { bare = refl; credit_is = t.credit_is; own_is = t.own_is; loose_is = t.loose_is; small = t.small; sound = t.sound }
