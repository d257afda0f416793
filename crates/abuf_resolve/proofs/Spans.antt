-- What was summed of some pixels.
use Rattle.std.proofs.Common.{◌≡◌, ℕ, ◌+◌, max, List, [], ◌∷◌, ◌++◌, length, slice_index_or, ap, ap₂, ◌∙◌, sym, subst, arith}
use Rattle.std.specs.List.{All, range_with_len}
use Rattle.std.proofs.lemmas.List.{append_assoc, map-append}
use Rattle.std.proofs.lemmas.List.Elements.{All-append, All-cons, All-nil}
use Rattle.abuf_num.specs.declared.plain.PixelSum.{PixelSum}
use Rattle.abuf_frame.specs.Closing.{Ended}
use Rattle.abuf_raster.proofs.Blocks.{range_cut}
use Rattle.abuf_raster.specs.Region.{Region}
use Rattle.abuf_raster.specs.Samples.{offsets_of}
use Rattle.abuf_resolve.specs.declared.shading.spans.Resolved.{Resolved}
use Rattle.abuf_resolve.specs.declared.shading.Shading.{Shading}
use Rattle.abuf_resolve.specs.Spans.{AreSpanSums}
use Rattle.abuf_resolve.specs.Shading.{sum_in}
use Rattle.abuf_resolve.specs.Lengths.{maximum, lengths_at}
use Rattle.abuf_resolve.specs.Sums.{IsSmall}

-- The greatest of the numbers of two lists.
greatest_append : (ns ms : List ℕ) → maximum (ns ++ ms) ≡ max (maximum ns) (maximum ms)
greatest_append [] ms = omega arith
greatest_append (n ∷ ns) ms = omega (arith, greatest_append ns ms)

-- With those of others, which follow.
pub span_join : (shading : Shading) (r : Region) (lists : List (List ℕ)) (front back : List ℕ) (a b new : Resolved)
    → AreSpanSums shading r lists front a → AreSpanSums shading r lists back b → new.sums ≡ a.sums ++ b.sums → new.longest ≡ max a.longest b.longest
    → AreSpanSums shading r lists (front ++ back) new
span_join shading r lists front back a b new first others joined most = record {
  sums = joined
      ∙ (ap₂ (λ (xs ys : List PixelSum). xs ++ ys) first.sums others.sums
      ∙ sym (map-append (sum_in shading r lists) front back));
  small = subst (All (IsSmall (length (offsets_of shading.pattern)))) (sym joined) (All-append (IsSmall (length (offsets_of shading.pattern))) a.sums b.sums first.small others.small);
  longest = most
      ∙ (ap₂ max first.longest others.longest
      ∙ (sym (greatest_append (lengths_at lists front) (lengths_at lists back))
      ∙ ap maximum (sym (map-append (λ place. length (slice_index_or lists place [])) front back))));
}

-- With one pixel more.
pub span_more : (shading : Shading) (r : Region) (lists : List (List ℕ)) (places : List ℕ) (p : ℕ) (old new : Resolved) (sum : PixelSum) (n : ℕ)
    → AreSpanSums shading r lists places old → new.sums ≡ old.sums ++ sum ∷ [] → new.longest ≡ max old.longest n
    → sum ≡ sum_in shading r lists p → n ≡ length (slice_index_or lists p []) → IsSmall (length (offsets_of shading.pattern)) sum
    → AreSpanSums shading r lists (places ++ p ∷ []) new
span_more shading r lists places p old new sum n is pushed most here count small =
    let IsFew : PixelSum → Type 0 = IsSmall (length (offsets_of shading.pattern)) in
    span_join shading r lists places (p ∷ []) old (record { sums = sum ∷ []; longest = n }) new is
    (record { sums = ap (λ (s : PixelSum). s ∷ []) here; small = All-cons IsFew sum [] small (All-nil IsFew); longest = omega (arith, count) }) pushed most

-- With those of pixels that follow, read from a frame that is the same.
pub places_more : (shading : Shading) (r : Region) (f g : Ended) → f ≡ g → (front : List ℕ) (from done n : ℕ) (old new : Resolved)
    → ((places : List ℕ) → AreSpanSums shading r f.lists places old → AreSpanSums shading r f.lists (places ++ range_with_len (from + done) n) new)
    → AreSpanSums shading r g.lists (front ++ range_with_len from done) old → AreSpanSums shading r g.lists (front ++ range_with_len from (done + n)) new
places_more shading r f g same front from done n old new added before =
    let order : (front ++ range_with_len from done) ++ range_with_len (from + done) n ≡ front ++ range_with_len from (done + n) =
    append_assoc front (range_with_len from done) (range_with_len (from + done) n) ∙ ap (λ (ps : List ℕ). front ++ ps) (range_cut from done n) in
    subst (λ (ps : List ℕ). AreSpanSums shading r g.lists ps new) order
    (subst (λ (e : Ended). AreSpanSums shading r e.lists ((front ++ range_with_len from done) ++ range_with_len (from + done) n) new) same
    (added (front ++ range_with_len from done) (subst (λ (e : Ended). AreSpanSums shading r e.lists (front ++ range_with_len from done) old) (sym same) before)))
