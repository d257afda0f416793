-- What holds where the libraries up to some were read.
use Rattle.std.proofs.Common.{◌≡◌, ◌+◌, ◌++◌, ◌∷◌, ℕ, List, [], None, Some, add_assoc, sym, ◌∙◌, refl}
use Rattle.abuf_num.specs.declared.plain.Paint.{Paint}
use Rattle.abuf_mtl.specs.StandsFor.{StandsFor}
use Rattle.abuf_top.specs.Libraries.{Holdings, refusal_from, library_refusal, asked_from, contents_from}
use Rattle.abuf_top.specs.declared.stop.Refusal.{Refusal}

-- `read` are the contents of the first libraries, and the names of the others are `rest`
pub record HasRead (held : Holdings) (count : ℕ) (read rest all : List (List ℕ)) : Type 0 where
  pub first : refusal_from held (count + 1) read rest ≡ refusal_from held 1 [] all
  pub asked : count + asked_from held (count + 1) read rest ≡ asked_from held 1 [] all
  pub contents : contents_from held read rest ≡ contents_from held [] all

-- the materials stand for the first libraries
pub record StandsSoFar (held : Holdings) (count : ℕ) (materials : List (List ℕ × Paint)) (rest all : List (List ℕ)) : Type 0 where
  pub read : List (List ℕ)
  pub stands : StandsFor read materials
  pub so_far : HasRead held count read rest all

module _ (held : Holdings) (count : ℕ) (read : List (List ℕ)) (name : List ℕ) (rest all : List (List ℕ)) (now : HasRead held count read (name ∷ rest) all) where
  -- this library is refused
  pub stops : (refusal : Refusal) → library_refusal (count + 1) read (held name) ≡ Some refusal → (refusal_from held 1 [] all ≡ Some refusal) × (count + 1 ≡ asked_from held 1 [] all)
  stops refusal is = (sym now.first ∙ rw is refl, rw is at now.asked)

  -- this library is read
  pub goes_on : (content : List ℕ) → library_refusal (count + 1) read (held name) ≡ None → held name ≡ Some content → HasRead held (count + 1) (read ++ content ∷ []) rest all
  goes_on content sound is = record {
    first = rw (sound, is) at now.first;
    asked = add_assoc count 1 _ ∙ (rw (sound, is) at now.asked);
    contents = rw is at now.contents;
  }
