-- What a pass and those split off from it add together.
use Rattle.std.proofs.Common.{◌≡◌, ℕ, true, List, [], ◌++◌, length, sym, ap, ◌∙◌, subst, arith, ⊎_elim, inl, inr, All, length-append, append_assoc, append-nil, if◌then◌else◌}
use Rattle.std.specs.List.{Contains}
use Rattle.std.proofs.lemmas.List.Elements.{All-nil, All-append, All-contains, All-contains_itself, All-filter, All-weaker, Contains-append_left, Contains-append_right, filter_passes}
use Rattle.std.proofs.lemmas.List.Sums.{sum_by-append}
use Rattle.abuf_frame.specs.declared.view.Entry.{Entry}
use Rattle.abuf_frame.specs.declared.view.View.{View}
use Rattle.abuf_frame.specs.Stages.{is_linked, is_loose}
use Rattle.abuf_frame.specs.Views.{endowment, linked_of, loose}
use Rattle.abuf_frame.specs.Steps.{united}
use Rattle.abuf_frame.specs.Draws.{Adds, Draws}
use Rattle.abuf_frame.proofs.Draws.{adds-append, draws_credit}
use Rattle.abuf_fan.specs.Grows.{Grows, IsKnown, IsOwn}
use Rattle.abuf_fan.specs.Workers.{Parted}

-- What a pass draws alone adds its entries, and nothing that it is told of.
pub grows_once : (items : List (ℕ × ℕ)) (v w : View) → Draws items v w → Grows items v w
grows_once items v w d = record {
  added = d.added;
  adds = d.adds;
  entries_are = ap (λ (u : View). u.entries) d.after;
  spent = draws_credit items v w d;
  news = [];
  told_are = ap (λ (u : View). u.told) d.after ∙ sym (append-nil v.told);
  told_own = All-nil _;
  seen_is = ap (λ (u : View). u.seen) d.after;
  walks_are = ap (λ (u : View). u.walks) d.after;
}

-- what was split off and drawn by two passes, joined again
module _ (items left right : List (ℕ × ℕ)) (v v1 v2 o1 o2 w : View) (cut : items ≡ left ++ right) (parted : Parted v v1 o1) (g : Grows left v1 v2) (h : Grows right o1 o2) (ew : w ≡ united v2 o2) where
  -- The joined view has the entries of both.
  entries_w : w.entries ≡ v2.entries ++ o2.entries
  entries_w = ap (λ (u : View). u.entries) ew

  -- An own Linked entry of the left view is one of the joined view,
  left_own : (e : Entry) → IsOwn v2 e → IsOwn w e
  left_own e o = (subst (λ (es : List Entry). Contains es e) (sym entries_w) (Contains-append_left v2.entries o2.entries e o.0), o.1)

  -- and so is one of the right view,
  right_own : (e : Entry) → IsOwn o2 e → IsOwn w e
  right_own e o = (subst (λ (es : List Entry). Contains es e) (sym entries_w) (Contains-append_right v2.entries o2.entries e o.0), o.1)

  -- and one of the view before the split.
  first_own : (e : Entry) → IsOwn v e → IsOwn w e
  first_own e o = left_own e (subst (λ (es : List Entry). Contains es e) (sym (g.entries_are ∙ ap (λ (u : View). u.entries ++ g.added) parted.left_is)) (Contains-append_left v.entries g.added e o.0), o.1)

  -- The split leaves what the left pass was told of as it was,
  told_v1 : v1.told ≡ v.told
  told_v1 = ap (λ (u : View). u.told) parted.left_is

  -- and tells the right one of the Linked entries besides.
  told_o1 : o1.told ≡ linked_of v.entries ++ v.told
  told_o1 = ap (λ (u : View). u.told) parted.right_is

  -- All that the right pass was told of at first is known in the end,
  known_first : All (IsKnown v w) o1.told
  known_first = subst (All (IsKnown v w)) (sym told_o1) (All-append (IsKnown v w) (linked_of v.entries) v.told
      (All-weaker (λ e. Contains v.entries e × (is_linked e.stage ≡ true)) (IsKnown v w) (λ e o. inr (first_own e o)) (linked_of v.entries) (λ k d l. (All-filter (λ (e : Entry). is_linked e.stage) (Contains v.entries) v.entries (All-contains_itself v.entries) k d l, filter_passes (λ (e : Entry). is_linked e.stage) v.entries k d l)))
      (All-weaker (Contains v.told) (IsKnown v w) (λ e o. inl o) v.told (All-contains_itself v.told)))

  -- so is what the left pass was told of since,
  known_left : All (IsKnown v w) g.news
  known_left = All-weaker (IsKnown v1 v2) (IsKnown v w) (λ e k. ⊎_elim (λ (c : Contains v1.told e). inl (subst (λ (es : List Entry). Contains es e) told_v1 c)) (λ (o : IsOwn v2 e). inr (left_own e o)) k) g.news g.told_own

  -- and what the right one was.
  known_right : All (IsKnown v w) h.news
  known_right = All-weaker (IsKnown o1 o2) (IsKnown v w) (λ e k. ⊎_elim (λ (c : Contains o1.told e). All-contains (IsKnown v w) o1.told e known_first c) (λ (o : IsOwn o2 e). inr (right_own e o)) k) h.news h.told_own

  -- Both together have drawn the items of both.
  pub grows_both : Grows items v w
  grows_both = let a = g.spent in let b = h.spent in let c = ap (λ (u : View). u.credit) parted.left_is in let d = ap (λ (u : View). u.credit) parted.right_is in let e = ap (λ (u : View). u.credit) ew in
      let f = parted.enough in let l = ap (λ (xs : List (ℕ × ℕ)). length xs) cut in let m = length-append left right in record {
        added = g.added ++ h.added;
        adds = subst (λ (xs : List (ℕ × ℕ)). Adds xs (g.added ++ h.added)) (sym cut) (adds-append left right g.added h.added g.adds h.adds);
        entries_are = rw (entries_w, g.entries_are, h.entries_are, parted.left_is, parted.right_is) (append_assoc v.entries g.added h.added);
        spent = omega arith;
        news = g.news ++ (o1.told ++ h.news);
        told_are = ap (λ (u : View). u.told) ew ∙ ((λ i. g.told_are i ++ h.told_are i) ∙ ((λ i. (told_v1 i ++ g.news) ++ (o1.told ++ h.news)) ∙ append_assoc v.told g.news (o1.told ++ h.news)));
        told_own = All-append (IsKnown v w) g.news (o1.told ++ h.news) known_left (All-append (IsKnown v w) o1.told h.news known_first known_right);
        seen_is = let x = ap (λ (u : View). u.seen) ew in let y = g.seen_is in let z = h.seen_is in let p = ap (λ (u : View). u.seen) parted.left_is in let q = ap (λ (u : View). u.seen) parted.right_is in omega arith;
        walks_are = ap (λ (u : View). u.walks) ew ∙ ((λ i. g.walks_are i ++ h.walks_are i) ∙ ((λ i. (ap (λ (u : View). u.walks) parted.left_is) i ++ (ap (λ (u : View). u.walks) parted.right_is) i) ∙ append-nil v.walks));
      }

module _ (items : List (ℕ × ℕ)) (v w : View) (g : Grows items v w) where
  -- Drawing spends as much credit as it adds entries, so the endowment stays.
  pub grows_endowment : endowment w ≡ endowment v
  grows_endowment = let c = g.spent in let e = ap (λ (es : List Entry). length es) g.entries_are in let l = length-append v.entries g.added in let n = g.adds.count in omega arith

  -- It adds no loose entries.
  pub grows_loose : loose w.entries ≡ loose v.entries
  grows_loose = let e = ap loose g.entries_are in let l = sum_by-append (λ (x : Entry). if is_loose x.stage then 1 else 0) v.entries g.added in let n = g.adds.settled in omega arith
