-- Every sample takes what was found for it.
use Rattle.std.proofs.Common.{◌≡◌, ℕ, ◌^◌, ◌<◌, ◌≤◌, List, [], length, get_or, take, refl, ap, ◌∙◌, sym, subst, arith, ℤ, is_some}
use Rattle.abuf_num.specs.declared.plain.Paint.{Paint}
use Rattle.abuf_raster.specs.Triangle.{Triangle}
use Rattle.abuf_raster.specs.Samples.{offsets_of}
use Rattle.abuf_resolve.specs.Colour.{numbers}
use Rattle.abuf_peel.specs.Layers.{NoneLeft, Peeled, Seen, SomeLeft, TakesTimes, count_of, next_at, sample_at, seen_at, size_of}
use Rattle.abuf_peel.specs.Members.{left_at}
use Rattle.abuf_peel.specs.Next.{next_among, next_word}
use Rattle.abuf_peel.specs.Offers.{AreNext}
use Rattle.abuf_peel.specs.Rewrites.{Rewrites}
use Rattle.abuf_peel.specs.Taking.{AreKnown, Finds, marked_by, no_word, painted_by}
use Rattle.abuf_peel.proofs.Found.{finds_nothing, finds_some}
use Rattle.abuf_peel.proofs.Insertion.{lowest_few, lowest_finds, lowest_first, lowest_known}
use Rattle.abuf_peel.proofs.Times.{none_after, takes_lowest}

module _ (tris : List Triangle) (paints : List Paint) (l : Peeled) (best : List (List ℕ)) (next : AreNext tris l.region l.pattern l.from best) where
  -- The paint of each word is known.
  pub all_known : length paints ≡ length tris → (j : ℕ) → j < length best → AreKnown (length paints) (get_or best j [])
  all_known e j m =
      subst (λ (n : ℕ). AreKnown n (get_or best j [])) (sym e)
      (lowest_known (length tris) (left_at l.region l.pattern tris l.from j (numbers tris)) (get_or best j []) (next.each j (omega (arith, next.size))))

  -- The marks and colours are those after several steps.
  pub all_take : (n : ℕ) (from : List ℕ) (colours : List (List ℕ)) → n ≤ 16 → length tris ≤ 2 ^ 24 → length l.from ≡ count_of l.region l.pattern → length l.colours ≡ count_of l.region l.pattern
      → Rewrites (λ j f. marked_by (take n (get_or best j [])) f) 0 (length l.from) l.from from
      → Rewrites (λ j under. painted_by paints (take n (get_or best j [])) under) 0 (length l.colours) l.colours colours
      → TakesTimes tris paints n l (record { region = l.region; pattern = l.pattern; from = from; colours = colours })
  all_take n from colours within few size many w v = record {
    region = refl;
    pattern = refl;
    each = λ j m.
        let f = next.each j m in
        let words = lowest_first n (length tris) (left_at l.region l.pattern tris l.from j (numbers tris)) (get_or best j []) within f in
        let mark = w.inside j 0 (omega arith) (omega arith) ∙ ap (λ (ws : List ℕ). marked_by ws (get_or l.from j 0)) words in
        let paint = v.inside j [] (omega arith) (omega arith) ∙ ap (λ (ws : List ℕ). painted_by paints ws (get_or l.colours j [])) words in
        (λ i. record { from = mark i; colour = paint i })
        ∙ takes_lowest (offsets_of l.pattern) tris paints (sample_at l.region (size_of l.pattern) j) few n (seen_at l j) f.known;
  }

  -- The first word of a sample is that of its next primitive.
  next_finds : (j : ℕ) → j < count_of l.region l.pattern → Finds (length tris) (next_at l.region l.pattern tris l.from j) (get_or (get_or best j []) 0 0)
  unfolding next_among
  next_finds j m = lowest_finds (length tris) (left_at l.region l.pattern tris l.from j (numbers tris)) (get_or best j []) (next.each j m)

  -- No sample has a primitive left where there is no word,
  pub none_left : ((j : ℕ) → j < length best → get_or (get_or best j []) 0 0 ≡ no_word) → NoneLeft tris l
  none_left h j m = finds_nothing (length tris) (next_at l.region l.pattern tris l.from j) (get_or (get_or best j []) 0 0) (next_finds j m) (h j (omega (arith, next.size)))

  -- and one has where there is one.
  pub some_left : (j : ℕ) × (j < length best) × (get_or (get_or best j []) 0 0 < no_word) → SomeLeft tris l
  some_left h =
      let inside : h.0 < count_of l.region l.pattern = omega (arith, next.size, h.1) in
      (h.0, inside, finds_some (length tris) (next_at l.region l.pattern tris l.from h.0) (get_or (get_or best h.0 []) 0 0) (next_finds h.0 inside) h.2)

  -- None is left afterwards where each sample has fewer than 16.
  pub none_later : (from : List ℕ) (colours : List (List ℕ)) → length tris ≤ 2 ^ 24 → TakesTimes tris paints 16 l (record { region = l.region; pattern = l.pattern; from = from; colours = colours })
      → ((j : ℕ) → j < length best → get_or (get_or best j []) 15 0 ≡ no_word) → NoneLeft tris (record { region = l.region; pattern = l.pattern; from = from; colours = colours })
  none_later from colours few t h j m =
      let os : List (ℤ × ℤ) = offsets_of l.pattern in
      let s = sample_at l.region (size_of l.pattern) j in
      let few_words = lowest_few 15 (length tris) (left_at l.region l.pattern tris l.from j (numbers tris)) (get_or best j []) (omega arith) (next.each j m) (h j (omega (arith, next.size))) in
      ap is_some (ap (λ (v : Seen). next_word os tris s v.from) (t.each j m) ∙ none_after os tris paints s few 16 (seen_at l j) (omega (arith, few_words)))
