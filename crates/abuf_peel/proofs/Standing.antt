-- What is seen of a layer: after which steps it stands, and the sums of its colours.
use Rattle.std.proofs.Common.{◌≡◌, ℕ, suc, Global, Vec, ◌+◌, ◌*◌, ◌/◌, ◌%◌, ◌^◌, ◌<◌, ◌≤◌, List, [], ℤ, length, get_or, Option, Some, None, is_some, false, true≢false, refl, ap, ap₂, ◌∙◌, sym, subst, arith, mul-le-mul}
use Rattle.std.specs.Vec.{with_items}
use Rattle.std.proofs.lemmas.List.{get_or-replicate, with_items_is}
use Rattle.std.proofs.lemmas.Nat.{div-mul-add, mod-mul-add}
use Rattle.abuf_num.specs.declared.plain.Paint.{Paint}
use Rattle.abuf_raster.specs.Region.{Region}
use Rattle.abuf_raster.specs.declared.pattern.Pattern.{Pattern}
use Rattle.abuf_raster.specs.Triangle.{Triangle}
use Rattle.abuf_raster.specs.Samples.{offsets_of}
use Rattle.abuf_resolve.specs.Colour.{colour, covering}
use Rattle.abuf_resolve.specs.Sums.{sums_at, region_sums}
use Rattle.abuf_resolve.proofs.Totals.{summed_same, same_on_range}
use Rattle.abuf_peel.specs.Next.{Sample, next_word}
use Rattle.abuf_peel.specs.Layers.{Peeled, Seen, peeled_of, seen_at, taken_times, after, started, TakesTimes, StandsFor, HaveLayer, AreWhole, NoneLeft, count_of, size_of, sample_at, sum_of_place, layer_sums, whole_colour}
use Rattle.abuf_peel.proofs.Steps.{after-layer, after-none, after-many, times_after}

-- ---- a layer whose parts are read, and written again
-- The same parts show the same layer.
pub same_parts : (r : Region) (pattern : Pattern) (words words' : List ℕ) (colours colours' : List (List ℕ)) → words ≡ words' → colours ≡ colours'
    → peeled_of r pattern words colours ≡ peeled_of r pattern words' colours'
same_parts r pattern words words' colours colours' e f = λ i. peeled_of r pattern (e i) (f i)

-- What a layer shows once words and colours are written to its parts.
abbrev pub shown : Region → Pattern → Vec ℕ Global → Vec (List ℕ) Global → List ℕ → List (List ℕ) → Peeled
shown r pattern from colours words over = peeled_of r pattern (with_items from words).items (with_items colours over).items

-- It shows these.
pub are_shown : (r : Region) (pattern : Pattern) (from : Vec ℕ Global) (colours : Vec (List ℕ) Global) (words : List ℕ) (over : List (List ℕ)) → length words ≡ from.len → length over ≡ colours.len → peeled_of r pattern words over ≡ shown r pattern from colours words over
are_shown r pattern from colours words over e f = same_parts r pattern words _ over _ (sym (with_items_is from words e)) (sym (with_items_is colours over f))

-- Steps from what was read to what is written are steps of the layer.
pub takes_as : (tris : List Triangle) (paints : List Paint) (n : ℕ) (old read written new : Peeled) → read ≡ old → written ≡ new → TakesTimes tris paints n read written → TakesTimes tris paints n old new
takes_as tris paints n old read written new e f t = subst (TakesTimes tris paints n old) f (subst (λ (l : Peeled). TakesTimes tris paints n l written) e t)

-- Sample k of the pixel at a place.
pub sample_is : (r : Region) (size place k : ℕ) → k < size → sample_at r size (place * size + k) ≡ record { x = r.x0 + place % r.w; y = r.y0 + place / r.w; k = k }
sample_is r size place k h =
    λ i. record { x = r.x0 + div-mul-add place size k h i % r.w; y = r.y0 + div-mul-add place size k h i / r.w; k = mod-mul-add place size k h i }

-- Its index is within.
pub sample_within : (place size pixels k count : ℕ) → place < pixels → k < size → count ≡ pixels * size → place * size + k < count
sample_within place size pixels k count h l e = let m : suc place * size ≤ pixels * size = mul-le-mul h (let z : size ≤ size = omega arith in z) in omega arith

module _ (background : List ℕ) (tris : List Triangle) (paints : List Paint) where
  -- At the start a layer stands for no step.
  pub stands_start : (r : Region) (pattern : Pattern) → StandsFor background tris paints 0 (started r pattern background)
  stands_start r pattern = record { each = λ j l i. record { from = get_or-replicate (count_of r pattern) j 0 0 l i; colour = get_or-replicate (count_of r pattern) j background [] l i } }

  -- Once every sample takes its next several times, it stands for so many more.
  pub stands_times : (n k : ℕ) (old new : Peeled) → TakesTimes tris paints k old new → StandsFor background tris paints n old → StandsFor background tris paints (n + k) new
  stands_times n k old new t p = record {
    each = λ j l.
        let here : j < count_of old.region old.pattern = subst (λ (m : ℕ). j < m) (ap₂ count_of t.region t.pattern) l in
        let steps : seen_at new j ≡ after (offsets_of old.pattern) background tris paints (sample_at old.region (size_of old.pattern) j) (n + k)
        = t.each j here ∙ (ap (taken_times (offsets_of old.pattern) tris paints (sample_at old.region (size_of old.pattern) j) k) (p.each j here)
        ∙ times_after (offsets_of old.pattern) tris paints (sample_at old.region (size_of old.pattern) j) n k (record { from = 0; colour = background })) in
        steps ∙ ap₂ (λ (r : Region) (q : Pattern). after (offsets_of q) background tris paints (sample_at r (size_of q) j) (n + k)) (sym t.region) (sym t.pattern);
  }

  module _ (few : length tris ≤ 2 ^ 24) where
    -- Then it has the layer of that number.
    pub layers_are : (n : ℕ) (l : Peeled) → StandsFor background tris paints n l → HaveLayer background tris paints n l
    layers_are n l p j m = ap (λ (v : Seen). v.colour) (p.each j m) ∙ after-layer (offsets_of l.pattern) background tris paints (sample_at l.region (size_of l.pattern) j) few n

    -- Where no primitive is left, the colours are whole.
    pub whole_none : (n : ℕ) (l : Peeled) → StandsFor background tris paints n l → NoneLeft tris l → AreWhole background tris paints l
    whole_none n l p none = record {
      each = λ j m.
          let os : List (ℤ × ℤ) = offsets_of l.pattern in
          let s : Sample = sample_at l.region (size_of l.pattern) j in
          ap (λ (v : Seen). v.colour) (p.each j m) ∙ after-none os background tris paints s few n (no_word_left _ (ap (λ (v : Seen). is_some (next_word os tris s v.from)) (sym (p.each j m)) ∙ none j m));
    } where
      no_word_left : (o : Option ℕ) → is_some o ≡ false → o ≡ None
      no_word_left None e = refl
      no_word_left (Some w) e = absurd (true≢false e)

    -- So they are after as many steps as primitives cover a sample.
    pub whole_many : (n : ℕ) (l : Peeled)
        → ((j : ℕ) → j < count_of l.region l.pattern → (let s : Sample = sample_at l.region (size_of l.pattern) j in length (covering (offsets_of l.pattern) tris s.x s.y s.k) ≤ n))
        → StandsFor background tris paints n l → AreWhole background tris paints l
    whole_many n l h p = record {
      each = λ j m. ap (λ (v : Seen). v.colour) (p.each j m) ∙ after-many (offsets_of l.pattern) background tris paints (sample_at l.region (size_of l.pattern) j) few n (h j m);
    }

  -- The sums of whole colours are those of the region.
  pub sums_whole : (l : Peeled) → AreWhole background tris paints l → layer_sums l ≡ region_sums (offsets_of l.pattern) background tris paints l.region
  sums_whole l w =
      same_on_range (sum_of_place l.colours (size_of l.pattern)) (λ place. sums_at (offsets_of l.pattern) background tris paints (l.region.x0 + place % l.region.w) (l.region.y0 + place / l.region.w))
      0 (l.region.w * l.region.h) (λ p z i.
      let inside : p < l.region.w * l.region.h = omega arith in
      summed_same (λ k. get_or l.colours (p * size_of l.pattern + k) []) (colour (offsets_of l.pattern) background tris paints (l.region.x0 + p % l.region.w) (l.region.y0 + p / l.region.w)) (size_of l.pattern)
      (λ k m.
      w.each (p * size_of l.pattern + k) (sample_within p (size_of l.pattern) (l.region.w * l.region.h) k (count_of l.region l.pattern) inside m refl)
      ∙ ap (whole_colour (offsets_of l.pattern) background tris paints) (sample_is l.region (size_of l.pattern) p k m)))
