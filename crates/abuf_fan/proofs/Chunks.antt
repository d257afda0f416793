-- Cutting triangles into chunks.
use Rattle.std.proofs.Common.{◌≡◌, ℕ, suc, ◌+◌, ◌*◌, ◌^◌, ◌<◌, ◌≤◌, ℤ, List, [], ◌∷◌, ◌++◌, length, drop, slice_index_or, sym, ap, ◌∙◌, arith, length-append, append_assoc}
use Rattle.std.proofs.Math.Seq.{drop-cons}
use Rattle.std.proofs.Math.Nat.{mul-le-mul}
use Rattle.std.proofs.lemmas.List.{length-map}
use Rattle.abuf_raster.specs.Region.{Region}
use Rattle.abuf_raster.specs.Triangle.{Triangle}
use Rattle.abuf_raster.specs.Hits.{all_fragments, fragments, hit_at, hits, placed}
use Rattle.abuf_raster.proofs.Hits.{hits_few}

-- The items from index i on are item i and those after it.
pub next_of : (ts : List Triangle) (i : ℕ) (t : Triangle) → i < length ts → t ≡ slice_index_or ts i t → drop i ts ≡ t ∷ drop (i + 1) ts
next_of ts i t l e = let s : suc i ≡ i + 1 = omega arith in drop-cons ts i t l ∙ λ k. sym e k ∷ drop (s k) ts

-- Credit for those that wait, and for some triangles on each pixel, is enough for one triangle,
pub one_more_waits : (waiting n area credit : ℕ) → waiting + suc n * area ≤ credit → waiting + area ≤ credit
one_more_waits waiting n area credit l = omega arith

-- what one leaves of it is enough for the others,
pub still_room : (old new n area credit after : ℕ) → old + suc n * area ≤ credit → credit + new ≤ after + old + area → new + n * area ≤ after
still_room old new n area credit after l f = omega arith

-- and all together have spent no more than that.
pub still_few : (old new n area start now after all : ℕ) → start + suc n * area + old ≤ now + all → now + new ≤ after + old + area → start + n * area + new ≤ after + all
still_few old new n area start now after all l f = omega arith

module _ (os : List (ℤ × ℤ)) (r : Region) where
  -- The fragments of two lists of triangles are those of the first, and then those of the second, numbered after them.
  pub all_fragments-append : (xs ys : List Triangle) (n : ℕ) → all_fragments (xs ++ ys) n os r ≡ all_fragments xs n os r ++ all_fragments ys (n + length xs) os r
  all_fragments-append [] ys n = let z : n ≡ n + 0 = omega arith in ap (λ (k : ℕ). all_fragments ys k os r) z
  all_fragments-append (x ∷ xs) ys n = let z : n + 1 + length xs ≡ n + length (x ∷ xs) = omega arith in
      ap (λ (l : List (ℕ × ℕ)). fragments x n os r ++ l) (all_fragments-append xs ys (n + 1) ∙ ap (λ (k : ℕ). all_fragments xs (n + 1) os r ++ all_fragments ys k os r) z)
      ∙ sym (append_assoc (fragments x n os r) (all_fragments xs (n + 1) os r) (all_fragments ys (n + length (x ∷ xs)) os r))

  -- no triangle has more fragments than the region has pixels
  pub all_fragments_few : (ts : List Triangle) (n : ℕ) → length (all_fragments ts n os r) ≤ length ts * (r.w * r.h)
  all_fragments_few [] n = omega arith
  all_fragments_few (t ∷ ts) n = let m = length-map (hits t n os r) (placed r) in let h = hits_few (hit_at t n os r) (r.w * r.h) 0 in let a = length-append (fragments t n os r) (all_fragments ts (n + 1) os r) in let f = all_fragments_few ts (n + 1) in omega arith

-- the credit of so many workers is small
pub need_small : (workers triangles area : ℕ) → workers ≤ 64 → triangles ≤ 2097152 → area ≤ 4194304 → workers * (triangles * area) < 2 ^ 64
need_small workers triangles area w t a = let p = mul-le-mul t a in let q = mul-le-mul w p in omega arith
