-- The samples of a region, as peeling goes on.
use Rattle.std.specs.Prelude.{◌≡◌, ℕ, zero, suc, ◌+◌, ◌*◌, ◌/◌, ◌%◌, ◌<◌, ℤ, List, [], Bool, true, false, Option, is_some, length, slice_index_or, replicate, map, take}
use Rattle.std.specs.List.{range_with_len}
use Rattle.abuf_num.specs.declared.plain.Paint.{Paint}
use Rattle.abuf_num.specs.declared.plain.PixelSum.{PixelSum}
use Rattle.abuf_raster.specs.declared.pattern.Pattern.{Pattern}
use Rattle.abuf_raster.specs.Triangle.{Triangle}
use Rattle.abuf_raster.specs.Samples.{offsets_of}
use Rattle.abuf_raster.specs.Region.{Region}
use Rattle.abuf_resolve.specs.Over.{layered}
use Rattle.abuf_resolve.specs.Colour.{colour, layers, paint_at}
use Rattle.abuf_resolve.specs.Sums.{summed}
use Rattle.abuf_peel.specs.Next.{Sample, next_word, left_from, with_word}

-- The paints of the lowest n primitives that cover the sample, or of all where there are fewer, laid over the background.
abbrev pub layer : List (ℤ × ℤ) → List ℕ → List Triangle → List Paint → Sample → ℕ → List ℕ
layer offsets background triangles paints s n =
    layered background (map (paint_at paints) (take n (layers offsets triangles s.x s.y s.k)))

-- What is seen of a layer: its region and pattern; and for each sample, pixel after pixel by ascending place, the word from
-- which on primitives are left, and its colour. That word is 0 where no primitive was taken yet, and else one above the word
-- of the last one taken.
pub record Peeled : Type 0 where
  pub region : Region
  pub pattern : Pattern
  pub from : List ℕ
  pub colours : List (List ℕ)

-- How many samples a pixel has.
abbrev pub size_of : Pattern → ℕ
size_of pattern = length (offsets_of pattern)

-- How many samples the pixels of a region have.
abbrev pub count_of : Region → Pattern → ℕ
count_of r pattern = r.w * r.h * size_of pattern

-- The sample at an index, where each pixel has so many.
abbrev pub sample_at : Region → ℕ → ℕ → Sample
sample_at r size j = record { x = r.x0 + j / size % r.w; y = r.y0 + j / size / r.w; k = j % size }

-- What is seen of a layer of this region and pattern, with these words and colours.
abbrev pub peeled_of : Region → Pattern → List ℕ → List (List ℕ) → Peeled
peeled_of r pattern from colours = record { region = r; pattern = pattern; from = from; colours = colours }

-- What the parts of a layer keep to.
pub record IsLayer (r : Region) (pattern : Pattern) (words : List ℕ) (found : List (List ℕ)) (colours : List (List ℕ)) : Type 0 where
  pub from_size : length words ≡ count_of r pattern
  pub best_size : length found ≡ count_of r pattern
  pub colours_size : length colours ≡ count_of r pattern

-- Nothing is taken yet.
abbrev pub started : Region → Pattern → List ℕ → Peeled
started r pattern background = record {
  region = r;
  pattern = pattern;
  from = replicate (count_of r pattern) 0;
  colours = replicate (count_of r pattern) background;
}

-- A sample: the word from which on primitives are left, and the colour.
pub record Seen : Type 0 where
  pub from : ℕ
  pub colour : List ℕ

-- The sample takes its next primitive. Without one it stays.
abbrev pub taken : List (ℤ × ℤ) → List Triangle → List Paint → Sample → Seen → Seen
taken offsets triangles paints s seen = record {
  from = left_from (next_word offsets triangles s seen.from) seen.from;
  colour = with_word paints (next_word offsets triangles s seen.from) seen.colour;
}

-- The sample takes its next primitive, n times over.
abbrev pub taken_times : List (ℤ × ℤ) → List Triangle → List Paint → Sample → ℕ → Seen → Seen
taken_times offsets triangles paints s zero seen = seen
taken_times offsets triangles paints s (suc n) seen = taken_times offsets triangles paints s n (taken offsets triangles paints s seen)

-- The sample after n steps from the background on.
abbrev pub after : List (ℤ × ℤ) → List ℕ → List Triangle → List Paint → Sample → ℕ → Seen
after offsets background triangles paints s n = taken_times offsets triangles paints s n (record { from = 0; colour = background })

-- What is seen of the sample at an index.
abbrev pub seen_at : Peeled → ℕ → Seen
seen_at l j = record { from = slice_index_or l.from j 0; colour = slice_index_or l.colours j [] }

-- Every sample takes its next primitive.
pub record Takes (triangles : List Triangle) (paints : List Paint) (old new : Peeled) : Type 0 where
  pub region : new.region ≡ old.region
  pub pattern : new.pattern ≡ old.pattern
  pub each : (j : ℕ) → j < count_of old.region old.pattern
      → seen_at new j ≡ taken (offsets_of old.pattern) triangles paints (sample_at old.region (size_of old.pattern) j) (seen_at old j)

-- Every sample takes its next primitive, n times over.
pub record TakesTimes (triangles : List Triangle) (paints : List Paint) (n : ℕ) (old new : Peeled) : Type 0 where
  pub region : new.region ≡ old.region
  pub pattern : new.pattern ≡ old.pattern
  pub each : (j : ℕ) → j < count_of old.region old.pattern
      → seen_at new j ≡ taken_times (offsets_of old.pattern) triangles paints (sample_at old.region (size_of old.pattern) j) n (seen_at old j)

-- The word of the next primitive of the sample at an index.
abbrev pub next_at : Region → Pattern → List Triangle → List ℕ → ℕ → Option ℕ
next_at r pattern triangles from j = next_word (offsets_of pattern) triangles (sample_at r (size_of pattern) j) (slice_index_or from j 0)

-- The sample at an index has a primitive left.
abbrev pub has_left : List Triangle → Peeled → ℕ → Bool
has_left triangles l j = is_some (next_at l.region l.pattern triangles l.from j)

-- No sample has one left,
abbrev pub NoneLeft : List Triangle → Peeled → Type 0
NoneLeft triangles l = (j : ℕ) → j < count_of l.region l.pattern → has_left triangles l j ≡ false

-- or some sample has.
abbrev pub SomeLeft : List Triangle → Peeled → Type 0
SomeLeft triangles l = (j : ℕ) × (j < count_of l.region l.pattern) × (has_left triangles l j ≡ true)

-- The layer stands for n steps over these lists.
pub record StandsFor (background : List ℕ) (triangles : List Triangle) (paints : List Paint) (n : ℕ) (l : Peeled) : Type 0 where
  pub each : (j : ℕ) → j < count_of l.region l.pattern
      → seen_at l j ≡ after (offsets_of l.pattern) background triangles paints (sample_at l.region (size_of l.pattern) j) n

-- The layer stands for no step, over whatever lists.
abbrev pub StandsForNone : List ℕ → Peeled → Type 0
StandsForNone background l = (triangles : List Triangle) (paints : List Paint) → StandsFor background triangles paints 0 l

-- The layer stands for one step more than before.
abbrev pub OneStepMore : List Triangle → List Paint → Peeled → Peeled → Type 0
OneStepMore triangles paints old new =
    (background : List ℕ) (n : ℕ) → StandsFor background triangles paints n old → StandsFor background triangles paints (suc n) new

-- The layer's colours are those of the lowest n primitives.
abbrev pub HaveLayer : List ℕ → List Triangle → List Paint → ℕ → Peeled → Type 0
HaveLayer background triangles paints n l =
    (j : ℕ) → j < count_of l.region l.pattern
    → slice_index_or l.colours j [] ≡ layer (offsets_of l.pattern) background triangles paints (sample_at l.region (size_of l.pattern) j) n

-- The colour of a sample, from the primitives alone.
abbrev pub whole_colour : List (ℤ × ℤ) → List ℕ → List Triangle → List Paint → Sample → List ℕ
whole_colour offsets background triangles paints s = colour offsets background triangles paints s.x s.y s.k

-- The colours of the layer are those that all primitives give.
pub record AreWhole (background : List ℕ) (triangles : List Triangle) (paints : List Paint) (l : Peeled) : Type 0 where
  pub each : (j : ℕ) → j < count_of l.region l.pattern
      → slice_index_or l.colours j [] ≡ whole_colour (offsets_of l.pattern) background triangles paints (sample_at l.region (size_of l.pattern) j)

-- The sum of a pixel's colours, by its place.
abbrev pub sum_of_place : List (List ℕ) → ℕ → ℕ → PixelSum
sum_of_place colours size place = summed (λ k. slice_index_or colours (place * size + k) []) size

-- The sums of all pixels of a layer, by ascending place.
abbrev pub layer_sums : Peeled → List PixelSum
layer_sums l = map (sum_of_place l.colours (size_of l.pattern)) (range_with_len 0 (l.region.w * l.region.h))
