-- The words of all fragments, and of lists that hold them, are words of fragments in their pixels.
use Rattle.std.proofs.Common.{◌≡◌, ℕ, ◌+◌, ◌-◌, ◌*◌, ◌/◌, ◌%◌, ◌^◌, ◌<◌, ◌≤◌, All, List, [], ◌∷◌, map, length, ℤ, arith, slice_index_or, get_or, sym, ap, ap₂, ◌∙◌, subst, ◌==◌}
use Rattle.std.specs.List.{filter, filter_map, flat_map, range_with_len}
use Rattle.std.specs.Int.{bit_at}
use Rattle.std.proofs.lemmas.Bool.{eqb-true}
use Rattle.std.proofs.lemmas.Nat.{div-add-mod'}
use Rattle.std.proofs.lemmas.List.Elements.{All-nil, All-head, All-tail, All-append, All-filter, All-map, filter_passes}
use Rattle.std.proofs.lemmas.List.Sorted.{All-permutation, IsPermutation-sym}
use Rattle.abuf_frame.specs.Draws.{payloads_at}
use Rattle.abuf_raster.specs.Triangle.{Triangle}
use Rattle.abuf_raster.specs.Coverage.{covers}
use Rattle.abuf_raster.specs.Hits.{all_fragments, fragments, hit_at, placed}
use Rattle.abuf_raster.specs.Packing.{unpacked}
use Rattle.abuf_raster.specs.Region.{Region, IsRegion}
use Rattle.abuf_raster.proofs.Bits.{bit_covers}
use Rattle.abuf_raster.proofs.Masks.{mask_small}
use Rattle.abuf_resolve.specs.Colour.{triangle_at, numbers}
use Rattle.abuf_resolve.specs.Words.{IsFragmentAt, AreFragmentLists, AreListsOf, AreWordsAt}
use Rattle.abuf_resolve.proofs.Hits.{all_fragments_are, hits_all, word_of}
use Rattle.abuf_resolve.proofs.Lists.{prim_is, mask_is}
use Rattle.abuf_resolve.proofs.Words.{range_below}

module _ (tris : List Triangle) (limit : length tris ≤ 2 ^ 24) (os : List (ℤ × ℤ)) (few : length os ≤ 16) where
  -- The word of a primitive's fragment is one of a fragment in its pixel.
  word_fits : (n x y : ℕ) → n < length tris → IsFragmentAt os tris x y (word_of (triangle_at tris n) os x y n)
  word_fits n x y h =
      let m = mask_small (triangle_at tris n) os x y few in
      let e : (unpacked (word_of (triangle_at tris n) os x y n)).prim ≡ n = prim_is os few x y (triangle_at tris n) n (omega arith) in
      record {
        fits = omega arith;
        known = omega arith;
        covered = λ k l s.
            ap (λ (i : ℕ). covers (triangle_at tris i) os x y k) e
            ∙ (sym (bit_covers (triangle_at tris n) os x y k l)
            ∙ (ap (λ (v : ℕ). bit_at v k == 1) (sym (mask_is os few x y (triangle_at tris n) n)) ∙ s));
      }

  module _ (r : Region) (is : IsRegion r) where
    -- the word of an entry is one of a fragment at its place
    abbrev IsIn : ℕ × ℕ → Type 0
    IsIn e = IsFragmentAt os tris (r.x0 + e.0 % r.w) (r.y0 + e.0 / r.w) e.1

    -- So are the words of the hits of one primitive,
    hits_fit : (n : ℕ) → n < length tris → (qs : List ℕ) → All IsIn (map (placed r) (filter_map (hit_at (triangle_at tris n) n os r) qs))
    hits_fit n h qs =
        All-map IsIn (placed r) (filter_map (hit_at (triangle_at tris n) n os r) qs) (hits_all (triangle_at tris n) n os r (λ d. IsIn (placed r d)) (λ q.
        let e : ((r.y0 + q / r.w) - r.y0) * r.w + ((r.x0 + q % r.w) - r.x0) ≡ q = ap₂ (λ (a b : ℕ). a * r.w + b) (omega arith) (omega arith) ∙ div-add-mod' q r.w in
        subst (λ (p : ℕ). IsFragmentAt os tris (r.x0 + p % r.w) (r.y0 + p / r.w) (word_of (triangle_at tris n) os (r.x0 + q % r.w) (r.y0 + q / r.w) n)) (sym e) (word_fits n (r.x0 + q % r.w) (r.y0 + q / r.w) h)) qs)

    -- and those of several,
    all_fit : (ns : List ℕ) → All (λ n. n < length tris) ns → All IsIn (flat_map (λ n. fragments (triangle_at tris n) n os r) ns)
    all_fit [] b = All-nil IsIn
    all_fit (n ∷ ns) b =
        All-append IsIn (fragments (triangle_at tris n) n os r) (flat_map (λ m. fragments (triangle_at tris m) m os r) ns)
        (hits_fit n (All-head (λ m. m < length tris) n ns b) (range_with_len 0 (r.w * r.h))) (all_fit ns (All-tail (λ m. m < length tris) n ns b))

    -- and those of the entries at one place,
    fit_at : (es : List (ℕ × ℕ)) (p : ℕ) → All IsIn es → All (IsFragmentAt os tris (r.x0 + p % r.w) (r.y0 + p / r.w)) (payloads_at p es)
    fit_at es p h =
        let here : List (ℕ × ℕ) = filter (λ (e : ℕ × ℕ). e.0 == p) es in
        All-map (IsFragmentAt os tris (r.x0 + p % r.w) (r.y0 + p / r.w)) (λ (e : ℕ × ℕ). e.1) here (λ k d l.
        subst (λ (q : ℕ). IsFragmentAt os tris (r.x0 + q % r.w) (r.y0 + q / r.w) (get_or here k d).1) (eqb-true (get_or here k d).0 p (filter_passes (λ (e : ℕ × ℕ). e.0 == p) es k d l))
        (All-filter (λ (e : ℕ × ℕ). e.0 == p) IsIn es h k d l))

    -- and the words at a place of a region into which all hits were drawn,
    pub words_fit : (p : ℕ) (words : List ℕ) → AreWordsAt (all_fragments tris 0 os r) p words → All (IsFragmentAt os tris (r.x0 + p % r.w) (r.y0 + p / r.w)) words
    words_fit p words are =
        let all = subst (All IsIn) (sym (all_fragments_are os tris r)) (all_fit (numbers tris) (range_below (length tris) (length tris) 0 (omega arith))) in
        let drawn_all = All-permutation IsIn (all_fragments tris 0 os r) are.entries (IsPermutation-sym _ _ are.drawn) all in
        All-permutation (IsFragmentAt os tris (r.x0 + p % r.w) (r.y0 + p / r.w)) (payloads_at p are.entries) words (IsPermutation-sym _ _ are.here) (fit_at are.entries p drawn_all)

    -- and those of all lists of a frame that holds them.
    pub lists_fit : (lists : List (List ℕ)) → AreListsOf (all_fragments tris 0 os r) lists → AreFragmentLists os tris r lists
    lists_fit lists are p l = words_fit p (slice_index_or lists p []) (record { entries = are.entries; drawn = are.drawn; here = are.each p l })
