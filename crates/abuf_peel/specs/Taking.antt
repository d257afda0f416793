-- What a step finds, as it is kept in words of 64 bits.
use Rattle.std.specs.Prelude.{◌≡◌, ℕ, zero, suc, ◌+◌, ◌^◌, ◌-◌, ◌<◌, ◌⊎◌, ◌==◌, if◌then◌else◌, nat_lt, List, [], ◌∷◌, Option, Some, None}
use Rattle.std.specs.List.{fold, All}
use Rattle.abuf_num.specs.declared.plain.Paint.{Paint}
use Rattle.abuf_resolve.specs.Order.{in_order}
use Rattle.abuf_resolve.specs.Over.{composite_over}
use Rattle.abuf_resolve.specs.Words.{paint_of, prim_of, IsDepthWord}

-- Above every word: no primitive.
abbrev pub no_word : ℕ
no_word = 2 ^ 64 - 1

-- The number stands for the word of one of so many primitives, or for none.
abbrev pub Finds : ℕ → Option ℕ → ℕ → Type 0
Finds count None best = best ≡ no_word
Finds count (Some word) best = (best ≡ word) × IsDepthWord count word

-- The first n of some words; where there are fewer, `no_word` stands for each that is missing.
abbrev pub padded : ℕ → List ℕ → List ℕ
padded zero words = []
padded (suc n) [] = no_word ∷ padded n []
padded (suc n) (word ∷ words) = word ∷ padded n words

-- The lowest 16 of some words, ascending.
unfoldable pub lowest : List ℕ → List ℕ
lowest words = padded 16 (in_order nat_lt words)

-- The lowest 16 of some words, each of which is that of one of so many primitives.
pub record FindsLowest (count : ℕ) (words best : List ℕ) : Type 0 where
  pub is : best ≡ lowest words
  pub known : All (IsDepthWord count) words

-- Each of the words is that of one of so many primitives, or of none.
abbrev pub AreKnown : ℕ → List ℕ → Type 0
AreKnown count words = All (λ word. (word ≡ no_word) ⊎ (prim_of word < count)) words

-- The word from which on primitives are left, once the primitive of this word is taken.
abbrev pub marked : ℕ → ℕ → ℕ
marked best from = if best == no_word then from else best + 1

-- The colour, once the primitive of this word is taken.
abbrev pub painted : List Paint → ℕ → List ℕ → List ℕ
painted paints best under = if best == no_word then under else composite_over under (paint_of paints best)

-- The word from which on primitives are left, once those of several words are taken one after another.
abbrev pub marked_by : List ℕ → ℕ → ℕ
marked_by words from = fold (λ mark word. marked word mark) from words

-- The colour, once the primitives of several words are taken one after another.
abbrev pub painted_by : List Paint → List ℕ → List ℕ → List ℕ
painted_by paints words under = fold (λ colour word. painted paints word colour) under words
