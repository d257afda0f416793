-- What two halves of the workers have drawn.
use Rattle.std.proofs.Common.{◌≡◌, ℕ, ◌+◌, ◌-◌, ◌≤◌, ℤ, List, [], ◌++◌, length, ap, ◌∙◌, subst, arith, length-append, append_assoc, IsPermutation}
use Rattle.std.specs.List.{flat_map}
use Rattle.std.proofs.lemmas.Grind.{flat_map-append}
use Rattle.abuf_raster.specs.Region.{Region}
use Rattle.abuf_raster.specs.Triangle.{Triangle}
use Rattle.abuf_frame.specs.declared.view.View.{View}
use Rattle.abuf_num.specs.Counting.{below, times}
use Rattle.abuf_frame.specs.Steps.{united}
use Rattle.abuf_num.proofs.Counting.{times-append}
use Rattle.abuf_frame.proofs.Draws.{adds_permuted}
use Rattle.std.proofs.lemmas.List.Sorted.{IsPermutation-trans, length_permutation}
use Rattle.abuf_raster.specs.Hits.{all_fragments}
use Rattle.abuf_fan.specs.Grows.{Grows}
use Rattle.abuf_fan.specs.Workers.{Parted, Served}
use Rattle.abuf_fan.proofs.Growing.{grows_both}
use Rattle.abuf_share.specs.declared.rule.TurnView.{TurnView}
use Rattle.abuf_share.specs.Desk.{EachOnceIfWhole, holding, whole_view}
use Rattle.abuf_fan.specs.Chunks.{IsOrder, fragments_of, chunk_fragments}
use Rattle.abuf_fan.proofs.Taken.{taken_all, past_all}
use Rattle.abuf_fan.proofs.Ordered.{ordered_all}

-- The items of a drawing may stand in any order.
pub grows_permuted : (items others : List (ℕ × ℕ)) (v w : View) → IsPermutation items others → Grows items v w → Grows others v w
grows_permuted items others v w p g = let l = length_permutation items others p in let s = g.spent in record {
  added = g.added;
  adds = adds_permuted items others g.added p g.adds;
  entries_are = g.entries_are;
  spent = omega arith;
  news = g.news;
  told_are = g.told_are;
  told_own = g.told_own;
  seen_is = g.seen_is;
  walks_are = g.walks_are;
}

module _ (ts : List Triangle) (os : List (ℤ × ℤ)) (r : Region) (order : List ℕ) where
  -- Where a pass and a turn are split off and joined again, both halves together have drawn the chunks of the numbers of both.
  pub served_both : (credit : ℕ) (h h1 k1 h2 k2 k : TurnView) (v v1 v2 o1 o2 w : View) → credit ≤ h.credit → h1 ≡ holding (h.credit - credit) h.drawn → h2 ≡ holding credit [] → k ≡ holding (k1.credit + k2.credit) (k1.drawn ++ k2.drawn) → EachOnceIfWhole k
      → Parted v v1 o1 → w ≡ united v2 o2 → Served ts os r order h1 k1 v1 v2 → Served ts os r order h2 k2 o1 o2 → Served ts os r order h k v w
  served_both credit h h1 k1 h2 k2 k v v1 v2 o1 o2 w fits e1 e2 ek whole parted ew a b =
      let c1 = ap (λ (z : TurnView). z.credit) e1 in let c2 = ap (λ (z : TurnView). z.credit) e2 in let ck = ap (λ (z : TurnView). z.credit) ek in let sa = a.spent_turn in let sb = b.spent_turn in let l = length-append a.numbers b.numbers in record {
        numbers = a.numbers ++ b.numbers;
        drawn_are = ap (λ (z : TurnView). z.drawn) ek ∙ ((λ i. (a.drawn_are ∙ ap (λ (z : TurnView). z.drawn ++ a.numbers) e1) i ++ (b.drawn_are ∙ ap (λ (z : TurnView). z.drawn ++ b.numbers) e2) i) ∙ append_assoc h.drawn a.numbers b.numbers);
        spent_turn = omega arith;
        beyond = a.beyond;
        taken = let t = times-append a.beyond a.numbers b.numbers in let u = a.taken in omega arith;
        is_beyond = a.is_beyond;
        each_once = whole;
        grows = grows_both _ (flat_map (chunk_fragments ts os r order) a.numbers) (flat_map (chunk_fragments ts os r order) b.numbers) v v1 v2 o1 o2 w (flat_map-append (chunk_fragments ts os r order) a.numbers b.numbers) parted a.grows b.grows ew;
      }

-- a turn that has the whole endowment has drawn every chunk once
pub served_all : (ts : List Triangle) (os : List (ℤ × ℤ)) (r : Region) (order : List ℕ) (h k : TurnView) (v w : View) → IsOrder (length ts) order → h ≡ whole_view → Served ts os r order h k v w → Grows (all_fragments ts 0 os r) v w
served_all ts os r order h k v w o e s = let d : k.drawn ≡ s.numbers = s.drawn_are ∙ ap (λ (z : TurnView). z.drawn ++ s.numbers) e in let c = ap (λ (z : TurnView). z.credit) e in let l = ap (λ (ns : List ℕ). length ns) d in let p = s.spent_turn in
    let once = subst (λ (ns : List ℕ). (n : ℕ) → times n ns ≡ below n (length ns)) d (s.each_once (omega arith)) in
    let chunks = taken_all ts os r order s.numbers once (past_all s.numbers (length order) s.beyond once s.taken s.is_beyond) in
    grows_permuted (flat_map (chunk_fragments ts os r order) s.numbers) (all_fragments ts 0 os r) v w
    (IsPermutation-trans (flat_map (chunk_fragments ts os r order) s.numbers) (flat_map (fragments_of ts os r) order) (all_fragments ts 0 os r) chunks (ordered_all ts os r order o)) s.grows
