-- Each step of the desk keeps its rule.
use Rattle.std.proofs.Common.{◌≡◌, ℕ, zero, suc, ◌+◌, ◌-◌, ◌%◌, ◌^◌, ◌<◌, ◌≤◌, Bool, cond, List, [], ◌∷◌, ◌++◌, length, set, get_or, sym, refl, ap, ◌∙◌, subst, arith, length-append, length-set, get_or-set_same, slice_index, eq-eqb, All}
use mathlib.Core.Option.{some, some-ne-none}
use lib.ListN.{get_elem?}
use lib.Seq.{set-get_or}
use Rattle.std.proofs.lemmas.List.{nil_from_length}
use Rattle.std.proofs.lemmas.List.Elements.{All-nil, All-cons}
use Rattle.std.proofs.lemmas.List.Sums.{sum_by-append}
use Rattle.atomic_table.specs.Table.{State, Me, keeps, stepped, Allows, Splits, Joins, opening}
use Rattle.atomic_table.proofs.Lists.{set_again}
use Rattle.abuf_num.specs.Counting.{below, times}
use Rattle.abuf_num.proofs.Counting.{sum_set, sum_le, sum_both, sum_only, times-append, below_more, below_no, below_from}
use Rattle.abuf_share.specs.declared.rule.TurnView.{TurnView}
use Rattle.abuf_share.specs.Desk.{Lawful, EachOnceIfWhole, Shown, whole_view, drawing, endowment, holding}

-- A state of the desk's table.
abbrev St : Type 0
St = State (Unit {0}) TurnView

-- The state that a desk starts in is lawful.
pub starts : Lawful (opening (0 ∷ []) [] whole_view)
starts = record { wide = refl; once = λ n. sym (below_no n 0 (omega arith)); counted = refl; endowed = refl }

-- Numbers of which each that stands in the list is below a bound are all below it.
under_from : (c : ℕ) (ns : List ℕ) → ((n : ℕ) → 0 < times n ns → n < c) → All (λ n. n < c) ns
under_from c [] h = All-nil (λ n. n < c)
under_from c (n ∷ ns) h = All-cons (λ n. n < c) n ns (h n (let t = ap (λ (b : Bool). cond {A = ℕ} b 1 0) (eq-eqb n n refl) in omega arith)) (under_from c ns (λ m l. h m (omega arith)))

module _ (s : St) (r : Lawful s) (id : ℕ) (v : TurnView) (at : get_elem? s.views id ≡ some v) where
  -- The turn that has the whole endowment has each number below the count once.
  whole : EachOnceIfWhole v
  whole e n = let a = sum_only (λ (u : TurnView). times n u.drawn) endowment (λ u z. ap (times n) (nil_from_length u.drawn (omega arith))) s.views id v at (r.endowed ∙ sym e) in
      let b = sum_only (λ (u : TurnView). length u.drawn) endowment (λ u z. omega arith) s.views id v at (r.endowed ∙ sym e) in sym a ∙ (r.once n ∙ ap (below n) (sym (r.counted) ∙ b))

  -- The numbers of a turn are below the word.
  under : All (λ n. n < slice_index s.words 0) v.drawn
  under = under_from (slice_index s.words 0) v.drawn (λ n l. let t = sum_le (λ (u : TurnView). times n u.drawn) s.views id v at in let o = r.once n in below_from n (slice_index s.words 0) (omega arith))

  -- What a turn may still draw doesn't reach 2 ^ 60.
  room : v.credit + slice_index s.words 0 ≤ 2 ^ 60
  room = let b = sum_both (λ (u : TurnView). u.credit) (λ (u : TurnView). length u.drawn) s.views in let c = sum_le (λ (u : TurnView). u.credit) s.views id v at in let d = r.counted in let e = r.endowed in omega arith

  -- The state after a number was drawn is lawful.
  drawn_state : (c : ℕ) → slice_index s.words 0 ≡ c → 1 ≤ v.credit → Lawful record { words = set s.words 0 (c + 1); homes = s.homes; views = set s.views id (drawing c v) }
  drawn_state c is some_credit = let w : TurnView = drawing c v in let wide = r.wide in let here : get_or (set s.words 0 (c + 1)) 0 0 ≡ c + 1 = get_or-set_same s.words 0 (c + 1) 0 (omega arith) in let len = length-append v.drawn (c ∷ []) in record {
    wide = length-set s.words 0 (c + 1) ∙ r.wide;
    once = λ n. let t = sum_set (λ (u : TurnView). times n u.drawn) s.views id v w at in let a = times-append n v.drawn (c ∷ []) in let m = below_more n c in let o = r.once n in let z = ap (below n) here in let y = ap (below n) is in omega arith;
    counted = let t = sum_set (λ (u : TurnView). length u.drawn) s.views id v w at in let o = r.counted in omega arith;
    endowed = let t = sum_set endowment s.views id v w at in let o = r.endowed in omega arith;
  }

-- A turn with credit may draw a number: the addition doesn't wrap, and shows what a turn learns by it.
pub takes : (slots id : ℕ) (me : Me (Unit {0}) TurnView) → me.1 ≡ [] → 1 ≤ me.0.credit → Allows Lawful slots id me 0 (λ n. (n + 1) % 2 ^ 64) (λ found now. (now ≡ (drawing found me.0, [])) × Shown found me.0)
takes slots id me bare some_credit s r deep at small = let c : ℕ = slice_index s.words 0 in let w : TurnView = drawing c me.0 in let m = room s r id me.0 at in let same : c + 1 ≡ (c + 1) % 2 ^ 64 = omega arith in
    let next = drawn_state s r id me.0 at c refl some_credit in (
      w,
      keeps,
      tt,
      subst (λ (x : ℕ). Lawful (stepped s 0 x id me.1 w keeps)) same next,
      ((λ i. (w, bare i)), (under s r id me.0 at, whole record { words = set s.words 0 (c + 1); homes = s.homes; views = set s.views id w } next id w (here s.views id me.0 w at))),
    )
  where
    here : (l : List TurnView) (i : ℕ) (v w : TurnView) → get_elem? l i ≡ some v → get_elem? (set l i w) i ≡ some w
    here [] i v w e = absurd (some-ne-none v (sym e))
    here (x ∷ xs) zero v w e = refl
    here (x ∷ xs) (suc i) v w e = here xs i v w e

-- Any turn may load the word, which shows whether its numbers are those below the count.
pub tells : (slots id : ℕ) (me : Me (Unit {0}) TurnView) → Allows Lawful slots id me 0 (λ n. n) (λ found now. (now ≡ me) × EachOnceIfWhole me.0)
tells slots id me s r deep at small = (
  me.0,
  keeps,
  tt,
  subst (λ (z : List ℕ × List TurnView). Lawful record { words = z.0; homes = s.homes; views = z.1 }) (λ i. (sym (set-get_or s.words 0 0) i, sym (set_again s.views id me.0 at) i)) r,
  (refl, whole s r id me.0 at),
)

-- So much of a turn's credit may be split off.
pub splits : (id credit : ℕ) (v : TurnView) → credit ≤ v.credit → Splits Lawful id v (holding (v.credit - credit) v.drawn) (holding credit [])
splits id credit v enough s r at = let l : TurnView = holding (v.credit - credit) v.drawn in let w : TurnView = holding credit [] in let vs : List TurnView = set s.views id l in record {
  wide = r.wide;
  once = λ n. let a = sum_by-append (λ (u : TurnView). times n u.drawn) vs (w ∷ []) in let b = sum_set (λ (u : TurnView). times n u.drawn) s.views id v l at in let o = r.once n in omega arith;
  counted = let a = sum_by-append (λ (u : TurnView). length u.drawn) vs (w ∷ []) in let b = sum_set (λ (u : TurnView). length u.drawn) s.views id v l at in let o = r.counted in omega arith;
  endowed = let a = sum_by-append endowment vs (w ∷ []) in let b = sum_set endowment s.views id v l at in let o = r.endowed in omega arith;
}

-- Two turns may be joined.
pub joins : (id other : ℕ) (v w : TurnView) → Joins Lawful id v other w (holding (v.credit + w.credit) (v.drawn ++ w.drawn)) (holding 0 [])
joins id other v w s r at apart at' = let b : TurnView = holding (v.credit + w.credit) (v.drawn ++ w.drawn) in let vs : List TurnView = set s.views id b in let len = length-append v.drawn w.drawn in record {
  wide = r.wide;
  once = λ n. let p = sum_set (λ (u : TurnView). times n u.drawn) s.views id v b at in let q = sum_set (λ (u : TurnView). times n u.drawn) vs other w (holding 0 []) at' in let t = times-append n v.drawn w.drawn in let o = r.once n in omega arith;
  counted = let p = sum_set (λ (u : TurnView). length u.drawn) s.views id v b at in let q = sum_set (λ (u : TurnView). length u.drawn) vs other w (holding 0 []) at' in let o = r.counted in omega arith;
  endowed = let p = sum_set endowment s.views id v b at in let q = sum_set endowment vs other w (holding 0 []) at' in let o = r.endowed in omega arith;
}
