-- Steps take the primitives of a sample from the lowest to the topmost.
use Rattle.std.proofs.Common.{◌≡◌, ℕ, zero, suc, ◌+◌, ◌^◌, ◌<◌, ◌≤◌, List, [], ◌∷◌, map, take, drop, length, get_or, ℤ, Option, None, refl, ap, ◌∙◌, sym, arith, nat_lt}
use Rattle.std.specs.List.{filter, range_with_len, AllPairs}
use Rattle.std.proofs.lemmas.List.{drop_all, get_or-map, length-map, take-map, take_all}
use Rattle.std.proofs.lemmas.List.FromFn.{get_or-range_with_len, length-range_with_len}
use Rattle.std.proofs.lemmas.List.Kept.{AllPairs-filter}
use Rattle.std.proofs.lemmas.List.Sorted.{length_permutation}
use Rattle.abuf_num.specs.declared.plain.Paint.{Paint}
use Rattle.abuf_raster.specs.Triangle.{Triangle}
use Rattle.abuf_raster.specs.Coverage.{covers}
use Rattle.abuf_resolve.specs.Colour.{triangle_at, covering, numbers, paint_at, layers}
use Rattle.abuf_resolve.specs.Order.{in_order}
use Rattle.abuf_resolve.specs.Over.{layered}
use Rattle.abuf_resolve.specs.Words.{layer_word, paint_of, prim_of, folded, reaches}
use Rattle.abuf_resolve.proofs.Lists.{below, layer_words, paints_are, told}
use Rattle.abuf_resolve.proofs.Orders.{pairs-in_order, permuted}
use Rattle.abuf_resolve.proofs.Seen.{reaches_all}
use Rattle.abuf_peel.specs.Next.{Sample, left_among, next_word, next_among, left_from, with_word}
use Rattle.abuf_peel.specs.Layers.{Seen, taken, taken_times, after, layer, whole_colour}
use Rattle.abuf_peel.proofs.Words.{first, least-left, rest_left}

-- The numbers of a range rise strictly.
range_climbs : (a n : ℕ) → AllPairs (λ x y. x < y) (range_with_len a n)
range_climbs a n i j d l m =
    let k : j < n = omega (arith, m, length-range_with_len a n) in
    omega (arith, l, get_or-range_with_len a n i d (omega arith), get_or-range_with_len a n j d k)

-- Where none is left after the first n, they are all.
all_taken : (n : ℕ) (xs : List ℕ) → first (drop n xs) ≡ None → take n xs ≡ xs
all_taken zero [] e = refl
all_taken zero (x ∷ xs) e = cc
all_taken (suc n) [] e = refl
all_taken (suc n) (x ∷ xs) e = ap (λ (ys : List ℕ). x ∷ ys) (all_taken n xs e)

-- Several steps after n.
pub times_after : (os : List (ℤ × ℤ)) (tris : List Triangle) (paints : List Paint) (s : Sample) (n k : ℕ) (seen : Seen) → taken_times os tris paints s k (taken_times os tris paints s n seen) ≡ taken_times os tris paints s (n + k) seen
times_after os tris paints s zero k seen = ap (λ (m : ℕ). taken_times os tris paints s m seen) (let e : k ≡ 0 + k = omega arith in e)
times_after os tris paints s (suc n) k seen = times_after os tris paints s n k (taken os tris paints s seen) ∙ ap (λ (m : ℕ). taken_times os tris paints s m seen) (let e : suc (n + k) ≡ suc n + k = omega arith in e)

module _ (os : List (ℤ × ℤ)) (background : List ℕ) (tris : List Triangle) (paints : List Paint) (s : Sample) (few : length tris ≤ 2 ^ 24) where
  -- The word of a primitive in the sample.
  abbrev pub word : ℕ → ℕ
  word n = layer_word os tris s.x s.y s.k n

  -- The primitives that cover the sample.
  abbrev pub these : List ℕ
  these = covering os tris s.x s.y s.k

  -- Their words in order.
  abbrev pub sorted : List ℕ
  sorted = in_order nat_lt (map word these)

  -- No two primitives have one word.
  distinct : AllPairs (λ a b. a ≡ b → ⊥) (map word these)
  distinct i j d l m e =
      let n : j < length these = omega (arith, m, length-map these word) in
      let small = below tris os s.x s.y s.k few in
      let rises = AllPairs-filter (λ a b. a < b) (λ n. covers (triangle_at tris n) os s.x s.y s.k) (numbers tris) (range_climbs 0 (length tris)) i j 0 l n in
      let same : get_or these i 0 ≡ get_or these j 0 =
      sym (told tris os s.x s.y s.k (get_or these i 0) (small i 0 (omega arith)))
      ∙ (ap prim_of (sym (get_or-map word these i 0 d (omega arith)) ∙ (e ∙ get_or-map word these j 0 d n))
      ∙ told tris os s.x s.y s.k (get_or these j 0) (small j 0 n)) in
      omega (arith, rises, same)

  -- So in order the words rise strictly.
  pub climbs : AllPairs (λ a b. a < b) sorted
  climbs = pairs-in_order (λ a b. a ≡ b → ⊥) (λ a b. a < b) (λ a b l. l) (λ a b l. omega arith) (λ a b n l. omega arith) (map word these) distinct

  -- The next word is the first in order that is left.
  pub next_is : (from : ℕ) → next_word os tris s from ≡ first (filter (reaches from) sorted)
  unfolding next_among left_among
  next_is from = least-left from (map word these)

  -- The next word is the first of what is left in order.
  pub next_first : (from : ℕ) (rest : List ℕ) → filter (reaches from) sorted ≡ rest → next_word os tris s from ≡ first rest
  next_first from rest e = next_is from ∙ ap first e

  -- What is left once the next is taken.
  pub left_next : (seen : Seen) (w : ℕ) (rest : List ℕ) → filter (reaches seen.from) sorted ≡ w ∷ rest → filter (reaches (taken os tris paints s seen).from) sorted ≡ rest
  left_next seen w rest e = ap (λ (o : Option ℕ). filter (reaches (left_from o seen.from)) sorted) (next_first seen.from (w ∷ rest) e) ∙ rest_left seen.from w rest sorted climbs e

  -- Nothing is left where nothing was.
  pub left_nothing : (seen : Seen) → filter (reaches seen.from) sorted ≡ [] → filter (reaches (taken os tris paints s seen).from) sorted ≡ []
  left_nothing seen e = ap (λ (o : Option ℕ). filter (reaches (left_from o seen.from)) sorted) (next_first seen.from [] e) ∙ e

  -- What is left after n steps, and the colour: the first n of what was left are laid over.
  pub steps : (n : ℕ) (rest : List ℕ) (seen : Seen) → filter (reaches seen.from) sorted ≡ rest
      → (filter (reaches (taken_times os tris paints s n seen).from) sorted ≡ drop n rest) × ((taken_times os tris paints s n seen).colour ≡ folded seen.colour paints (take n rest))
  steps zero rest seen e = (e, refl)
  steps (suc n) [] seen e =
      let later = steps n [] (taken os tris paints s seen) (left_nothing seen e) in
      (later.0 ∙ drop_all n [] (omega arith), later.1 ∙ (ap (folded (taken os tris paints s seen).colour paints) (take_all n [] (omega arith)) ∙ ap (λ (o : Option ℕ). with_word paints o seen.colour) (next_first seen.from [] e)))
  steps (suc n) (w ∷ rest) seen e =
      let later = steps n rest (taken os tris paints s seen) (left_next seen w rest e) in
      (later.0, later.1 ∙ ap (λ (o : Option ℕ). folded (with_word paints o seen.colour) paints (take n rest)) (next_first seen.from (w ∷ rest) e))

  -- The paints of words are those of their primitives.
  paints_in_order : map (paint_of paints) sorted ≡ map (paint_at paints) (layers os tris s.x s.y s.k)
  paints_in_order = ap (map (paint_of paints)) (sym (layer_words tris os s.x s.y s.k few)) ∙ paints_are tris os s.x s.y s.k few paints

  -- The colour of the whole is that of all words.
  whole_is : folded background paints sorted ≡ whole_colour os background tris paints s
  whole_is = ap (layered background) paints_in_order

  -- After n steps from the background on,
  after_steps : (n : ℕ) → (filter (reaches (after os background tris paints s n).from) sorted ≡ drop n sorted) × ((after os background tris paints s n).colour ≡ folded background paints (take n sorted))
  after_steps n = steps n sorted (record { from = 0; colour = background }) (reaches_all 0 sorted (λ k d l. omega arith))

  -- a sample has the paints of the lowest n primitives.
  pub after-layer : (n : ℕ) → (after os background tris paints s n).colour ≡ layer os background tris paints s n
  after-layer n =
      (after_steps n).1
      ∙ ap (layered background) (sym (take-map (paint_of paints) n sorted) ∙ (ap (take n) paints_in_order ∙ take-map (paint_at paints) n (layers os tris s.x s.y s.k)))

  -- Where none is left, its colour is whole.
  pub after-none : (n : ℕ) → next_word os tris s (after os background tris paints s n).from ≡ None → (after os background tris paints s n).colour ≡ whole_colour os background tris paints s
  after-none n none = (after_steps n).1 ∙ (ap (folded background paints) (all_taken n sorted (sym (next_first _ (drop n sorted) (after_steps n).0) ∙ none)) ∙ whole_is)

  -- So it is after as many steps as primitives cover it.
  pub after-many : (n : ℕ) → length these ≤ n → (after os background tris paints s n).colour ≡ whole_colour os background tris paints s
  after-many n h =
      let count : length sorted ≤ n = omega (arith, length_permutation (map word these) sorted (permuted nat_lt (map word these)), length-map these word) in
      (after_steps n).1 ∙ (ap (folded background paints) (take_all n sorted count) ∙ whole_is)
