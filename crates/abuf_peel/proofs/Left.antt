-- The primitives that samples still take.
use Rattle.std.proofs.Common.{◌≡◌, ℕ, zero, suc, nat_lt, ◌^◌, ◌+◌, ◌<◌, ◌≤◌, Bool, true, false, ◌&&◌, if◌then◌else◌, List, [], ◌∷◌, ◌++◌, map, take, length, get_or, set, ℤ, All, IsPermutation, refl, ap, ◌∙◌, sym, subst, arith}
use Rattle.std.specs.List.{count_by, filter}
use Rattle.std.proofs.lemmas.Bool.{ltb-false, not-true}
use Rattle.std.proofs.lemmas.List.{append-nil, length-set, map-append, get_or-set_other, take-set, take_more, take_more_set, take_all}
use Rattle.std.proofs.lemmas.List.Elements.{filter-append, filter_passes, All-nil, All-push}
use Rattle.std.proofs.lemmas.List.Sorted.{All-permutation}
use Rattle.abuf_num.specs.declared.plain.Paint.{Paint}
use Rattle.abuf_raster.specs.declared.pattern.Pattern.{Pattern}
use Rattle.abuf_raster.specs.Triangle.{Triangle}
use Rattle.abuf_raster.specs.Coverage.{covers}
use Rattle.abuf_raster.specs.Hits.{hits}
use Rattle.abuf_raster.specs.Region.{Region, IsRegion}
use Rattle.abuf_raster.specs.declared.region.Hit.{Hit}
use Rattle.abuf_raster.specs.Samples.{offsets_of}
use Rattle.abuf_raster.proofs.Masks.{offsets_some}
use Rattle.abuf_resolve.specs.Colour.{triangle_at, numbers}
use Rattle.abuf_resolve.specs.Order.{in_order}
use Rattle.abuf_resolve.specs.Words.{layer_word, prim_of, reaches, IsDepthWord}
use Rattle.abuf_peel.specs.Layers.{Seen, TakesTimes, count_of, sample_at, size_of, taken, taken_times}
use Rattle.abuf_peel.specs.Members.{HaveAll, HaveLeft, left_at}
use Rattle.abuf_peel.specs.Next.{Sample, covering_among, least, left_among, left_from, next_among, next_word, words_among}
use Rattle.abuf_peel.specs.Offers.{AreNext, AreNextAmong, IsDone, OffersHits, OffersNext, has_at, inserted, is_covered, offered_times, word_at, word_of}
use Rattle.abuf_peel.specs.Taking.{FindsLowest, lowest}
use Rattle.abuf_peel.proofs.Insertion.{lowest_more}
use Rattle.abuf_peel.proofs.Chosen.{sample_in}
use Rattle.abuf_peel.proofs.Hits.{once_covered}
use Rattle.abuf_peel.proofs.Words.{first, least-first}
use Rattle.abuf_resolve.proofs.Orders.{permuted}
use Rattle.abuf_resolve.proofs.Seen.{reaches_greater}

-- ---- the words from which on a sample takes only rise
-- The word above the least of those that aren't below a bound isn't below it.
least_rises : (from : ℕ) (xs : List ℕ) → from ≤ left_from (least (filter (reaches from) xs)) from
least_rises from xs = rw (least-first (filter (reaches from) xs)) (go (in_order nat_lt (filter (reaches from) xs)) (All-permutation (λ x. reaches from x ≡ true) _ _ (permuted nat_lt _) (filter_passes (reaches from) xs))) where
  go : (ys : List ℕ) → All (λ x. reaches from x ≡ true) ys → from ≤ left_from (first ys) from
  go [] all = omega arith
  go (y ∷ ys) all = let low : from ≤ y = ltb-false y from (not-true (nat_lt y from) (all 0 0 (omega arith))) in omega arith

-- So it is once a sample takes its next primitive.
next_rises : (os : List (ℤ × ℤ)) (tris : List Triangle) (s : Sample) (from : ℕ) → from ≤ left_from (next_word os tris s from) from
unfolding next_among left_among
next_rises os tris s from = least_rises from (words_among os tris s (numbers tris))

-- So it is once it takes several.
times_rise : (os : List (ℤ × ℤ)) (tris : List Triangle) (paints : List Paint) (s : Sample) (n : ℕ) (seen : Seen) → seen.from ≤ (taken_times os tris paints s n seen).from
times_rise os tris paints s zero seen = omega arith
times_rise os tris paints s (suc n) seen = omega (arith, next_rises os tris s seen.from, times_rise os tris paints s n (taken os tris paints s seen))

-- ---- what is left of some primitives
module _ (os : List (ℤ × ℤ)) (tris : List Triangle) (s : Sample) where
  -- What is left of some primitives and others.
  left_append : (from : ℕ) (ms ns : List ℕ) → left_among os tris s from (ms ++ ns) ≡ left_among os tris s from ms ++ left_among os tris s from ns
  unfolding left_among
  left_append from ms ns =
      ap (filter (reaches from)) (ap (map (layer_word os tris s.x s.y s.k)) (filter-append (λ n. covers (triangle_at tris n) os s.x s.y s.k) ms ns) ∙ map-append (layer_word os tris s.x s.y s.k) (covering_among os tris s ms) (covering_among os tris s ns))
      ∙ filter-append (reaches from) (words_among os tris s ms) (words_among os tris s ns)

  -- What is left of some primitives and one more.
  left_more : (from : ℕ) (ns : List ℕ) (n : ℕ)
      → left_among os tris s from (ns ++ n ∷ [])
      ≡ left_among os tris s from ns ++ (if is_covered (triangle_at tris n) os s && reaches from (word_of (triangle_at tris n) n os s) then word_of (triangle_at tris n) n os s ∷ [] else [])
  unfolding left_among is_covered word_of
  left_more from ns n =
      left_append from ns (n ∷ [])
      ∙ ap (λ (ws : List ℕ). left_among os tris s from ns ++ ws)
      (elim (covers (triangle_at tris n) os s.x s.y s.k) as (λ (v : Bool).
      filter (reaches from) (map (layer_word os tris s.x s.y s.k) (if v then n ∷ [] else [])) ≡ (if v && reaches from (layer_word os tris s.x s.y s.k n) then layer_word os tris s.x s.y s.k n ∷ [] else []))
      [ true ↦ refl | false ↦ refl ])

  -- A primitive of which nothing is left may be dropped.
  left_dropped : (from : ℕ) (ns : List ℕ) (n : ℕ) → (0 < (if is_covered (triangle_at tris n) os s then 1 else 0) → reaches from (word_of (triangle_at tris n) n os s) ≡ false) → left_among os tris s from ns ≡ left_among os tris s from (ns ++ n ∷ [])
  left_dropped from ns n none =
      sym (left_more from ns n
      ∙ (ap (λ (v : Bool). left_among os tris s from ns ++ (if v then word_of (triangle_at tris n) n os s ∷ [] else [])) (go (is_covered (triangle_at tris n) os s) none)
      ∙ append-nil (left_among os tris s from ns))) where
        go : (v : Bool) → (0 < (if v then 1 else 0) → reaches from (word_of (triangle_at tris n) n os s) ≡ false) → (v && reaches from (word_of (triangle_at tris n) n os s)) ≡ false
        go true f = f (omega arith)
        go false f = refl

  -- Where as much is left of some as of others, so it is with one more.
  pub left_kept : (from : ℕ) (ms ns : List ℕ) (n : ℕ) → left_among os tris s from ms ≡ left_among os tris s from ns → left_among os tris s from (ms ++ n ∷ []) ≡ left_among os tris s from (ns ++ n ∷ [])
  left_kept from ms ns n e = left_append from ms (n ∷ []) ∙ (ap (λ (ws : List ℕ). ws ++ left_among os tris s from (n ∷ [])) e ∙ sym (left_append from ns (n ∷ [])))

  -- So it is from a higher word on.
  pub left_rises : (a b : ℕ) (ms ns : List ℕ) → a ≤ b → left_among os tris s a ms ≡ left_among os tris s a ns → left_among os tris s b ms ≡ left_among os tris s b ns
  unfolding left_among
  left_rises a b ms ns h e = sym (reaches_greater a b (words_among os tris s ms) h) ∙ (ap (filter (reaches b)) e ∙ reaches_greater a b (words_among os tris s ns) h)

  -- What is found among some primitives, once one more is offered.
  lowest_next : (from : ℕ) (ns : List ℕ) (n : ℕ) (best new : List ℕ) → n < length tris → length tris ≤ 2 ^ 24
      → FindsLowest (length tris) (left_among os tris s from ns) best
      → new ≡ offered_times (if is_covered (triangle_at tris n) os s then 1 else 0) from (word_of (triangle_at tris n) n os s) best
      → (0 < (if is_covered (triangle_at tris n) os s then 1 else 0) → word_of (triangle_at tris n) n os s < 2 ^ 48)
      → FindsLowest (length tris) (left_among os tris s from (ns ++ n ∷ [])) new
  unfolding word_of
  lowest_next from ns n best new known few f e fit =
      subst (λ (ws : List ℕ). FindsLowest (length tris) ws new) (sym (left_more from ns n))
      (subst (λ (b : List ℕ). FindsLowest (length tris) (left_among os tris s from ns ++ (if is_covered (triangle_at tris n) os s && reaches from (word_of (triangle_at tris n) n os s) then word_of (triangle_at tris n) n os s ∷ [] else [])) b) (sym e)
      (go (is_covered (triangle_at tris n) os s) fit)) where
        here : (w : ℕ) (v : Bool) → IsDepthWord (length tris) w
            → FindsLowest (length tris) (left_among os tris s from ns ++ (if v then w ∷ [] else [])) (if v && nat_lt w (get_or best 15 0) then inserted 0 w best else best)
        here w false i = subst (λ (ws : List ℕ). FindsLowest (length tris) ws best) (sym (append-nil (left_among os tris s from ns))) f
        here w true i = lowest_more (length tris) w (left_among os tris s from ns) best i f

        go : (v : Bool) → (0 < (if v then 1 else 0) → word_of (triangle_at tris n) n os s < 2 ^ 48)
            → FindsLowest (length tris) (left_among os tris s from ns ++ (if v && reaches from (word_of (triangle_at tris n) n os s) then word_of (triangle_at tris n) n os s ∷ [] else [])) (offered_times (if v then 1 else 0) from (word_of (triangle_at tris n) n os s) best)
        go false small = subst (λ (ws : List ℕ). FindsLowest (length tris) ws best) (sym (append-nil (left_among os tris s from ns))) f
        go true small = here (word_of (triangle_at tris n) n os s) (reaches from (word_of (triangle_at tris n) n os s)) (record { fits = small (omega arith); known = let p : prim_of (word_of (triangle_at tris n) n os s) ≡ n = omega arith in omega arith })

module _ (tris : List Triangle) (r : Region) (pattern : Pattern) (from : List ℕ) where
  -- Among no primitives nothing is found.
  pub next_none : (best : List (List ℕ)) → length best ≡ count_of r pattern → ((j : ℕ) → j < length best → get_or best j [] ≡ lowest []) → AreNextAmong tris r pattern from [] best
  unfolding left_among
  next_none best e each = record { size = e; each = λ j l. record { is = each j (omega (arith, e)); known = All-nil (IsDepthWord (length tris)) } }

  -- Once a triangle is offered to the samples of all its hits, it is offered to all samples.
  pub offers_next : (t : Triangle) (n : ℕ) (all : List Hit) (old new : List (List ℕ)) (left : Bool) → t ≡ triangle_at tris n → n < length tris → length tris ≤ 2 ^ 24 → IsRegion r → IsPermutation all (hits t n (offsets_of pattern) r)
      → OffersHits t n r pattern from all old new left → OffersNext tris n r pattern from old new left
  offers_next t n all old new left same known few is p o =
      subst (λ (u : Triangle). IsPermutation all (hits u n (offsets_of pattern) r) → OffersHits u n r pattern from all old new left → OffersNext tris n r pattern from old new left) (sym same) go p o where
        go : IsPermutation all (hits (triangle_at tris n) n (offsets_of pattern) r) → OffersHits (triangle_at tris n) n r pattern from all old new left → OffersNext tris n r pattern from old new left
        go p o = record {
          next = λ ns f. record {
            size = o.size ∙ f.size;
            each = λ j l.
                lowest_next (offsets_of pattern) tris (sample_at r (size_of pattern) j) (get_or from j 0) ns n (get_or old j []) (get_or new j []) known few (f.each j l)
                (o.each j l ∙ ap (λ (m : ℕ). offered_times m (get_or from j 0) (word_at (triangle_at tris n) n r pattern j) (get_or old j [])) (once j l))
                (λ m. (o.told j l (omega (arith, m, once j l))).0);
          };
          done = λ e ns j l. left_dropped (offsets_of pattern) tris (sample_at r (size_of pattern) j) (get_or from j 0) ns n (λ m. (o.told j l (omega (arith, m, once j l))).1 e);
        } where
          once : (j : ℕ) → j < count_of r pattern → count_by (has_at r (size_of pattern) j) all ≡ (if is_covered (triangle_at tris n) (offsets_of pattern) (sample_at r (size_of pattern) j) then 1 else 0)
          once j l = once_covered (triangle_at tris n) n r pattern all j is (offsets_some pattern) l p

-- ---- members of which something is left
-- All that cover a sample of a region are all that its samples still take, whatever they have taken.
pub all_left : (tris : List Triangle) (r : Region) (pattern : Pattern) (from members : List ℕ) → IsRegion r → HaveAll (offsets_of pattern) tris r members → HaveLeft tris r pattern from members
unfolding left_among
all_left tris r pattern from members is have = record {
  known = have.known;
  each = λ j l.
      let s : Sample = sample_at r (size_of pattern) j in
      ap (λ (ns : List ℕ). filter (reaches (get_or from j 0)) (map (layer_word (offsets_of pattern) tris s.x s.y s.k) ns)) (have.each s (sample_in r pattern j is (offsets_some pattern) l));
}

-- They are still all once each sample takes several.
pub left_after : (tris : List Triangle) (paints : List Paint) (n : ℕ) (r : Region) (pattern : Pattern) (from new members : List ℕ) (under over : List (List ℕ))
    → TakesTimes tris paints n (record { region = r; pattern = pattern; from = from; colours = under }) (record { region = r; pattern = pattern; from = new; colours = over })
    → HaveLeft tris r pattern from members → HaveLeft tris r pattern new members
left_after tris paints n r pattern from new members under over t have = record {
  known = have.known;
  each = λ j l.
      let s : Sample = sample_at r (size_of pattern) j in
      let old : Seen = record { from = get_or from j 0; colour = get_or under j [] } in
      let is : get_or new j 0 ≡ (taken_times (offsets_of pattern) tris paints (sample_at r (size_of pattern) j) n (record { from = get_or from j 0; colour = get_or under j [] })).from = ap (λ (v : Seen). v.from) (t.each j l) in
      let up : get_or from j 0 ≤ get_or new j 0 = omega (arith, is, times_rise (offsets_of pattern) tris paints s n old) in
      left_rises (offsets_of pattern) tris s (get_or from j 0) (get_or new j 0) members (numbers tris) up (have.each j l);
}

module _ (tris : List Triangle) (r : Region) (pattern : Pattern) (from : List ℕ) where
  -- Of the first i of all members those of which something is left were moved to the front; those from i on stand where they stood.
  pub record Sifted (all : List ℕ) (i kept : ℕ) (members : List ℕ) : Type 0 where
    pub size : length members ≡ length all
    pub low : kept ≤ i
    pub rest : (m : ℕ) → i ≤ m → get_or members m 0 ≡ get_or all m 0
    pub known : All (λ n. n < length tris) (take kept members)
    pub each : (j : ℕ) → j < count_of r pattern → left_at r pattern tris from j (take kept members) ≡ left_at r pattern tris from j (take i all)

  -- At the start none is.
  pub sifted_starts : (all : List ℕ) → Sifted all 0 0 all
  sifted_starts all = record { size = refl; low = omega arith; rest = λ m l. refl; known = All-nil (λ n. n < length tris); each = λ j l. refl }

  -- One member more is kept where something is left of it.
  pub sifted_more : (all : List ℕ) (i kept : ℕ) (members : List ℕ) (n : ℕ) (left : Bool) → i < length all → n ≡ get_or all i 0 → n < length tris → Sifted all i kept members
      → (left ≡ false → IsDone tris r pattern from n)
      → Sifted all (i + 1) (if left then kept + 1 else kept) (set members kept n)
  sifted_more all i kept members n left within e known f done = go left done where
    inside : kept < length members
    inside = omega (arith, f.size, f.low)

    longer : take (i + 1) all ≡ take i all ++ n ∷ []
    longer = take_more all i 0 within ∙ ap (λ (m : ℕ). take i all ++ m ∷ []) (sym e)

    front : take (kept + 1) (set members kept n) ≡ take kept members ++ n ∷ []
    front = take_more_set members kept n inside

    go : (v : Bool) → (v ≡ false → IsDone tris r pattern from n) → Sifted all (i + 1) (if v then kept + 1 else kept) (set members kept n)
    go true u = record {
      size = length-set members kept n ∙ f.size;
      low = omega (arith, f.low);
      rest = λ m l. get_or-set_other members kept m n 0 (λ s. omega (arith, f.low)) ∙ f.rest m (omega arith);
      known = subst (All (λ m. m < length tris)) (sym front) (All-push (λ m. m < length tris) (take kept members) n f.known known);
      each = λ j l.
          ap (left_at r pattern tris from j) front
          ∙ (left_kept (offsets_of pattern) tris (sample_at r (size_of pattern) j) (get_or from j 0) (take kept members) (take i all) n (f.each j l)
          ∙ sym (ap (left_at r pattern tris from j) longer));
    }
    go false u = record {
      size = length-set members kept n ∙ f.size;
      low = omega (arith, f.low);
      rest = λ m l. get_or-set_other members kept m n 0 (λ s. omega (arith, f.low)) ∙ f.rest m (omega arith);
      known = subst (All (λ m. m < length tris)) (sym (take-set members kept n)) f.known;
      each = λ j l.
          ap (left_at r pattern tris from j) (take-set members kept n)
          ∙ (f.each j l
          ∙ (u refl (take i all) j l
          ∙ sym (ap (left_at r pattern tris from j) longer)));
    }

  -- At the end those that are kept are all that the samples still take.
  pub sifted_ends : (all : List ℕ) (i kept : ℕ) (members : List ℕ) → length all ≤ i → Sifted all i kept members → HaveLeft tris r pattern from all → HaveLeft tris r pattern from (take kept members)
  sifted_ends all i kept members l f have = record {
    known = f.known;
    each = λ j m. f.each j m ∙ (ap (left_at r pattern tris from j) (take_all i all l) ∙ have.each j m);
  }

  -- What is found among all of them are the next of all primitives.
  pub next_all : (all : List ℕ) (i : ℕ) (best : List (List ℕ)) → length all ≤ i → HaveLeft tris r pattern from all → AreNextAmong tris r pattern from (take i all) best → AreNext tris r pattern from best
  next_all all i best l have f = record {
    size = f.size;
    each = λ j m. subst (λ (ws : List ℕ). FindsLowest (length tris) ws (get_or best j [])) (ap (left_at r pattern tris from j) (take_all i all l) ∙ have.each j m) (f.each j m);
  }
