-- Which band is the first that is full.
use Rattle.std.proofs.Common.{◌≡◌, ℕ, ◌<◌, ◌≤◌, List, map, length, position, nat_lt, Some, None, refl, ap, ◌∙◌, arith}
use Rattle.std.specs.List.{position_or_len, range_with_len}
use Rattle.std.proofs.lemmas.Bool.{le-ltb, lt-ltb}
use Rattle.std.proofs.lemmas.List.FromFn.{length-map-range_with_len, get_or-map-range_with_len}
use Rattle.std.proofs.lemmas.List.Sums.{position_or_len_is}

module _ (f : ℕ → ℕ) (bands nodes : ℕ) where
  -- The number of the first full band, or of the bands.
  at : (k : ℕ) → k ≤ bands → ((j : ℕ) → j < k → f j ≤ nodes) → (k < bands → nodes < f k) → position_or_len (nat_lt nodes) (map f (range_with_len 0 bands)) ≡ k
  at k within fit full =
      let all : List ℕ = map f (range_with_len 0 bands) in
      let count : length all ≡ bands = length-map-range_with_len f 0 bands in
      position_or_len_is (nat_lt nodes) all k 0 (omega (arith, count))
      (λ j below. ap (nat_lt nodes) (get_or-map-range_with_len f 0 bands j j 0 (omega arith) (omega arith)) ∙ le-ltb nodes (f j) (fit j below))
      (λ below. let l : k < bands = omega (arith, count) in ap (nat_lt nodes) (get_or-map-range_with_len f 0 bands k k 0 l (omega arith)) ∙ lt-ltb nodes (f k) (full l))

  -- Where each band has nodes, there is none.
  pub none_full : ((j : ℕ) → j < bands → f j ≤ nodes) → position (nat_lt nodes) (map f (range_with_len 0 bands)) ≡ None
  none_full fit =
      let count : length (map f (range_with_len 0 bands)) ≡ bands = length-map-range_with_len f 0 bands in
      let here : position_or_len (nat_lt nodes) (map f (range_with_len 0 bands)) ≡ bands = at bands (omega arith) fit (λ below. absurd (omega arith)) in
      rw (here, count, le-ltb bands bands (omega arith)) refl

  -- A band without nodes, after others that have them, is the first.
  pub first_is : (k : ℕ) → k < bands → ((j : ℕ) → j < k → f j ≤ nodes) → nodes < f k → position (nat_lt nodes) (map f (range_with_len 0 bands)) ≡ Some k
  first_is k below fit full =
      let count : length (map f (range_with_len 0 bands)) ≡ bands = length-map-range_with_len f 0 bands in
      let here : position_or_len (nat_lt nodes) (map f (range_with_len 0 bands)) ≡ k = at k (omega arith) fit (λ _. full) in
      rw (here, count, lt-ltb k bands below) refl
