-- Spans of pixels that follow each other.
use Rattle.std.proofs.Common.{◌≡◌, ℕ, [], ◌++◌, List, length, ◌+◌, ◌-◌, ◌*◌, ◌/◌, ◌%◌, ◌<◌, min, map, ◌∙◌, sym, slice_index_or, arith}
use Rattle.std.specs.List.{range_with_len}
use Rattle.std.proofs.lemmas.List.{get_or-map, length-map}
use Rattle.std.proofs.lemmas.List.FromFn.{fill_by_all}
use Rattle.std.proofs.lemmas.Nat.{div-mul-add, mod-mul-add}
use Rattle.abuf_raster.proofs.Blocks.{range_cut}
use Rattle.abuf_resolve.specs.Lengths.{lengths_at}

-- The pixels of a span follow those of the spans before it.
pub span_next : (pixels size k : ℕ) → size * k < pixels
    → range_with_len 0 (min (size * k) pixels) ++ range_with_len (size * k) (min size (pixels - size * k)) ≡ range_with_len 0 (min (size * (k + 1)) pixels)
span_next pixels size k l =
    let front : min (size * k) pixels ≡ size * k = omega (arith, l) in
    let all : min (size * (k + 1)) pixels ≡ size * k + min size (pixels - size * k) = omega (arith, l) in
    let at : 0 + size * k ≡ size * k = omega arith in
    cc (front, all, at, range_cut 0 (size * k) (min size (pixels - size * k)))

-- The row and the column of a place.
pub row_column : (q w r p : ℕ) → p ≡ q * w + r → r < w → (p / w ≡ q) × (p % w ≡ r)
row_column q w r p e l = rw e (div-mul-add q w r l, mod-mul-add q w r l)

-- The lengths of the lists at all places are those of the lists.
pub lengths_all : (lists : List (List ℕ)) (n : ℕ) → length lists ≡ n → lengths_at lists (range_with_len 0 n) ≡ map length lists
lengths_all lists n e =
    sym (fill_by_all (λ p. length (slice_index_or lists p [])) (map length lists) n 0 (length-map lists length ∙ e) (λ p l. get_or-map length lists p [] 0 (omega arith)))
