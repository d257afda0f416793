-- The first four pixels of a list, and those behind them.
use Rattle.std.proofs.Common.{◌≡◌, ℕ, ◌≤◌, ◌++◌, List, [], ◌∷◌, length, take, drop, flat_map, slice_index_or, sym, ap, ◌∙◌, arith}
use Rattle.std.proofs.lemmas.Grind.{flat_map-append}
use Rattle.std.proofs.lemmas.List.{append_assoc}
use Rattle.abuf_num.specs.declared.plain.PixelSum.{PixelSum}

pub with_four : (f : PixelSum → List ℕ) (other : PixelSum) (out : List ℕ) (sums : List PixelSum) → 4 ≤ length sums
    → (out ++ flat_map f (slice_index_or (take 4 sums) 0 other ∷ slice_index_or (take 4 sums) 1 other ∷ slice_index_or (take 4 sums) 2 other ∷ slice_index_or (take 4 sums) 3 other ∷ []))
    ++ flat_map f (drop 4 sums) ≡ out ++ flat_map f sums
with_four f other out [] many = absurd (omega (arith, many))
with_four f other out (a ∷ []) many = absurd (omega (arith, many))
with_four f other out (a ∷ b ∷ []) many = absurd (omega (arith, many))
with_four f other out (a ∷ b ∷ c ∷ []) many = absurd (omega (arith, many))
with_four f other out (a ∷ b ∷ c ∷ d ∷ later) many =
    append_assoc out (flat_map f (a ∷ b ∷ c ∷ d ∷ [])) (flat_map f later)
    ∙ ap (λ (bytes : List ℕ). out ++ bytes) (sym (flat_map-append f (a ∷ b ∷ c ∷ d ∷ []) later))
