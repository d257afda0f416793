-- A sample takes several primitives at once.
use Rattle.std.proofs.Common.{◌≡◌, ℕ, zero, suc, ◌^◌, ◌≤◌, All, List, [], ◌∷◌, length, ℤ, Option, Some, None, refl, ap, ◌∙◌, sym, nat_lt}
use Rattle.std.specs.List.{filter}
use Rattle.abuf_num.specs.declared.plain.Paint.{Paint}
use Rattle.std.proofs.lemmas.List.{drop_all}
use Rattle.std.proofs.lemmas.List.Elements.{All-head, All-tail}
use Rattle.std.proofs.lemmas.List.Sorted.{All-permutation}
use Rattle.abuf_raster.specs.Triangle.{Triangle}
use Rattle.abuf_resolve.specs.Colour.{numbers}
use Rattle.abuf_resolve.specs.Order.{in_order}
use Rattle.abuf_resolve.specs.Words.{reaches, IsDepthWord}
use Rattle.abuf_resolve.proofs.Covered.{filter-in_order}
use Rattle.abuf_resolve.proofs.Orders.{permuted}
use Rattle.abuf_peel.specs.Layers.{Seen, taken, taken_times}
use Rattle.abuf_peel.specs.Next.{Sample, left_among, left_from, next_word, with_word}
use Rattle.abuf_peel.specs.Taking.{Finds, marked_by, no_word, padded, painted_by}
use Rattle.abuf_peel.proofs.Found.{marked_is, painted_is}
use Rattle.abuf_peel.proofs.Steps.{left_next, left_nothing, next_first, sorted, steps}

module _ (os : List (ℤ × ℤ)) (tris : List Triangle) (paints : List Paint) (s : Sample) (few : length tris ≤ 2 ^ 24) where
  -- The words of all primitives that cover the sample, in order.
  abbrev all : List ℕ
  all = sorted os [] tris paints s few

  -- What a sample is once it takes the primitives of these words.
  abbrev given : List ℕ → Seen → Seen
  given words seen = record { from = marked_by words seen.from; colour = painted_by paints words seen.colour }

  -- With the word of its next primitive that is a step.
  one : (seen : Seen) (o : Option ℕ) (w : ℕ) → next_word os tris s seen.from ≡ o → Finds (length tris) o w → given (w ∷ []) seen ≡ taken os tris paints s seen
  one seen o w is f = λ i. record {
    from = (marked_is (length tris) o w seen.from f ∙ ap (λ (p : Option ℕ). left_from p seen.from) (sym is)) i;
    colour = (painted_is (length tris) paints o w seen.colour f ∙ ap (λ (p : Option ℕ). with_word paints p seen.colour) (sym is)) i;
  }

  -- The first n words that are left are those that are taken in n steps.
  takes_padded : (n : ℕ) (rest : List ℕ) (seen : Seen) → filter (reaches seen.from) all ≡ rest → All (IsDepthWord (length tris)) rest → given (padded n rest) seen ≡ taken_times os tris paints s n seen
  takes_padded zero rest seen e k = refl
  takes_padded (suc n) [] seen e k =
      ap (given (padded n [])) (one seen None no_word (next_first os [] tris paints s few seen.from [] e) refl)
      ∙ takes_padded n [] (taken os tris paints s seen) (left_nothing os [] tris paints s few seen e) k
  takes_padded (suc n) (w ∷ rest) seen e k =
      ap (given (padded n rest)) (one seen (Some w) w (next_first os [] tris paints s few seen.from (w ∷ rest) e) (refl, All-head (IsDepthWord (length tris)) w rest k))
      ∙ takes_padded n rest (taken os tris paints s seen) (left_next os [] tris paints s few seen w rest e) (All-tail (IsDepthWord (length tris)) w rest k)

  -- Of what is left of all primitives.
  starts : (from : ℕ) → filter (reaches from) all ≡ in_order nat_lt (left_among os tris s from (numbers tris))
  unfolding left_among
  starts from = filter-in_order (reaches from) _

  -- So it is of what is left of all primitives.
  pub takes_lowest : (n : ℕ) (seen : Seen) → All (IsDepthWord (length tris)) (left_among os tris s seen.from (numbers tris))
      → given (padded n (in_order nat_lt (left_among os tris s seen.from (numbers tris)))) seen ≡ taken_times os tris paints s n seen
  takes_lowest n seen k = takes_padded n _ seen (starts seen.from) (All-permutation (IsDepthWord (length tris)) _ _ (permuted nat_lt _) k)

  -- Where there were fewer than n, none is left.
  pub none_after : (n : ℕ) (seen : Seen) → length (in_order nat_lt (left_among os tris s seen.from (numbers tris))) ≤ n → next_word os tris s (taken_times os tris paints s n seen).from ≡ None
  none_after n seen l = next_first os [] tris paints s few (taken_times os tris paints s n seen).from [] ((steps os [] tris paints s few n _ seen (starts seen.from)).0 ∙ drop_all n _ l)
