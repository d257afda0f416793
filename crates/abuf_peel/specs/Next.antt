-- The next primitive of a sample.
use Rattle.std.specs.Prelude.{ℕ, ◌+◌, min, ℤ, List, [], ◌∷◌, map, Option, Some, None}
use Rattle.std.specs.List.{filter}
use Rattle.abuf_num.specs.declared.plain.Paint.{Paint}
use Rattle.abuf_raster.specs.Triangle.{Triangle}
use Rattle.abuf_raster.specs.Coverage.{covers}
use Rattle.abuf_resolve.specs.Over.{composite_over}
use Rattle.abuf_resolve.specs.Colour.{triangle_at, numbers}
use Rattle.abuf_resolve.specs.Words.{layer_word, paint_of, reaches}

-- Sample k of pixel (x, y).
pub record Sample : Type 0 where
  pub x : ℕ
  pub y : ℕ
  pub k : ℕ

-- Of the primitives with these numbers, those that cover the sample.
abbrev pub covering_among : List (ℤ × ℤ) → List Triangle → Sample → List ℕ → List ℕ
covering_among offsets triangles s ns = filter (λ n. covers (triangle_at triangles n) offsets s.x s.y s.k) ns

-- The words of those that cover the sample: the depth key there times 2^24, plus the primitive number.
abbrev pub words_among : List (ℤ × ℤ) → List Triangle → Sample → List ℕ → List ℕ
words_among offsets triangles s ns = map (layer_word offsets triangles s.x s.y s.k) (covering_among offsets triangles s ns)

-- The lower of a word and of another one, if there is one.
abbrev pub lower_of : ℕ → Option ℕ → ℕ
lower_of word None = word
lower_of word (Some other) = min word other

-- The least of the words, if there is one.
abbrev pub least : List ℕ → Option ℕ
least [] = None
least (word ∷ words) = Some (lower_of word (least words))

-- The words of these primitives in the sample that aren't below `from`.
unfoldable pub left_among : List (ℤ × ℤ) → List Triangle → Sample → ℕ → List ℕ → List ℕ
left_among offsets triangles s from ns = filter (reaches from) (words_among offsets triangles s ns)

-- The lowest word of these primitives in the sample that isn't below `from`, if there is one.
unfoldable pub next_among : List (ℤ × ℤ) → List Triangle → Sample → ℕ → List ℕ → Option ℕ
next_among offsets triangles s from ns = least (left_among offsets triangles s from ns)

-- The lowest word of all primitives that isn't below `from`: the next one that the sample takes.
abbrev pub next_word : List (ℤ × ℤ) → List Triangle → Sample → ℕ → Option ℕ
next_word offsets triangles s from = next_among offsets triangles s from (numbers triangles)

-- The word from which on primitives are left, once the next one is taken.
abbrev pub left_from : Option ℕ → ℕ → ℕ
left_from None from = from
left_from (Some word) from = word + 1

-- The colour, once the next primitive is taken.
abbrev pub with_word : List Paint → Option ℕ → List ℕ → List ℕ
with_word paints None under = under
with_word paints (Some word) under = composite_over under (paint_of paints word)
