-- Bounds on how many fragments triangles have.
use Rattle.std.proofs.Common.{◌≡◌, ℕ, ◌+◌, ◌<◌, ◌≤◌, ℤ, List, ◌++◌, length, drop, slice_index_or, ap, arith, length-append}
use Rattle.std.proofs.lemmas.List.{length-map, drop_all}
use Rattle.abuf_raster.specs.Region.{Region}
use Rattle.abuf_raster.specs.Triangle.{Triangle}
use Rattle.abuf_raster.specs.Hits.{all_fragments, fragments, hits, placed}
use Rattle.abuf_fan.specs.Bound.{IsBound}
use Rattle.abuf_fan.proofs.Chunks.{next_of, all_fragments-append}

module _ (os : List (ℤ × ℤ)) (r : Region) where
  -- one triangle more has at most as many fragments more as it has hits
  pub most_next : (ts : List Triangle) (i : ℕ) (t : Triangle) (most : ℕ) → i < length ts → t ≡ slice_index_or ts i t → ((p : ℕ) → length (hits t p os r) ≤ most)
      → (first : ℕ) → length (all_fragments (drop i ts) (first + i) os r) ≤ most + length (all_fragments (drop (i + 1) ts) (first + (i + 1)) os r)
  most_next ts i t most l e h first =
      let n : first + i + 1 ≡ first + (i + 1) = omega arith in
      let cut = ap (λ (us : List Triangle). length (all_fragments us (first + i) os r)) (next_of ts i t l e) in
      let a = length-append (fragments t (first + i) os r) (all_fragments (drop (i + 1) ts) (first + i + 1) os r) in
      let m = length-map (hits t (first + i) os r) (placed r) in
      let s = ap (λ (k : ℕ). length (all_fragments (drop (i + 1) ts) k os r)) n in
      let b = h (first + i) in
      omega (arith, cut, a, m, s, b)

  -- none is left at the end
  pub most_done : (ts : List Triangle) (i n : ℕ) → length ts ≤ i → length (all_fragments (drop i ts) n os r) ≡ 0
  most_done ts i n l = ap (λ (us : List Triangle). length (all_fragments us n os r)) (drop_all i ts l)

  -- the triangles before a place, and those from there on
  pub most_both : (ts us : List Triangle) (enough m n : ℕ) → IsBound ts os r enough m → IsBound us os r enough n → IsBound (ts ++ us) os r enough (m + n)
  most_both ts us enough m n f g first =
      let a = ap (λ (xs : List (ℕ × ℕ)). length xs) (all_fragments-append os r ts us first) in
      let b = length-append (all_fragments ts first os r) (all_fragments us (first + length ts) os r) in
      let c = f first in let d = g (first + length ts) in omega (arith, a, b, c, d)
