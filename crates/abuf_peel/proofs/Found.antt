-- What a step finds, and what a sample then takes.
use Rattle.std.proofs.Common.{◌≡◌, ℕ, ◌+◌, ◌<◌, Bool, true, false, if◌then◌else◌, List, [], ◌∷◌, ◌++◌, Option, Some, None, is_some, refl, ap, ◌∙◌, arith}
use Rattle.std.specs.List.{range_with_len}
use Rattle.std.proofs.lemmas.Bool.{eq-eqb, ne_eqb}
use Rattle.abuf_num.specs.declared.plain.Paint.{Paint}
use Rattle.abuf_raster.proofs.Blocks as raster
use Rattle.abuf_resolve.specs.Over.{composite_over}
use Rattle.abuf_resolve.specs.Words.{paint_of}
use Rattle.abuf_peel.specs.Next.{left_from, with_word}
use Rattle.abuf_peel.specs.Taking.{Finds, marked, no_word, painted}

-- A range with one number more.
pub range_more : (n : ℕ) → range_with_len 0 (n + 1) ≡ range_with_len 0 n ++ n ∷ []
range_more n = raster.range_more 0 n ∙ ap (λ (m : ℕ). range_with_len 0 n ++ m ∷ []) (omega arith)

-- ---- what is taken
-- The mark of a sample is that of what is found.
pub marked_is : (count : ℕ) (o : Option ℕ) (best from : ℕ) → Finds count o best → marked best from ≡ left_from o from
marked_is count None best from f = rw (eq-eqb best no_word f) refl
marked_is count (Some w) best from f = rw (ne_eqb best no_word (λ e. omega (arith, f.0, f.1.fits))) (omega (arith, f.0))

-- So is its colour.
pub painted_is : (count : ℕ) (paints : List Paint) (o : Option ℕ) (best : ℕ) (under : List ℕ) → Finds count o best → painted paints best under ≡ with_word paints o under
painted_is count paints None best under f = ap (λ (b : Bool). if b then under else composite_over under (paint_of paints best)) (eq-eqb best no_word f)
painted_is count paints (Some w) best under f =
    ap (λ (b : Bool). if b then under else composite_over under (paint_of paints best)) (ne_eqb best no_word (λ e. omega (arith, f.0, f.1.fits)))
    ∙ ap (λ (v : ℕ). composite_over under (paint_of paints v)) f.0

-- Nothing is found where there is no word,
pub finds_nothing : (count : ℕ) (o : Option ℕ) (best : ℕ) → Finds count o best → best ≡ no_word → is_some o ≡ false
finds_nothing count None best f e = refl
finds_nothing count (Some w) best f e = absurd (omega (arith, f.0, f.1.fits))

-- and something where there is one.
pub finds_some : (count : ℕ) (o : Option ℕ) (best : ℕ) → Finds count o best → best < no_word → is_some o ≡ true
finds_some count None best f l = absurd (omega arith)
finds_some count (Some w) best f l = refl
