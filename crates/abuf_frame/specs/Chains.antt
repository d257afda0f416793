-- The list of a pixel by what its entries keep: the walk from one to the next along their old heads, from the entry that was
-- swapped in last to the first one.
use Rattle.std.specs.Prelude.{◌≡◌, ℕ, ◌+◌, List, [], ◌∷◌, map, IsPermutation}
use Rattle.abuf_frame.specs.declared.view.Entry.{Entry}
use Rattle.abuf_frame.specs.Stages.{old_of, payload_of}
use Rattle.abuf_frame.specs.Views.{at_pixel}

-- the word that refers to the first of the entries
abbrev pub first_of : List Entry → ℕ
first_of [] = 0
first_of (e ∷ es) = e.number + 1

-- the old head of each entry refers to the one after it, and the last one was swapped into an empty list
abbrev pub AreChained : List Entry → Type 0
AreChained [] = Unit {0}
AreChained (e ∷ es) = (old_of e.stage ≡ first_of es) × AreChained es

abbrev pub payload_in : Entry → ℕ
payload_in e = payload_of e.stage

-- The entries that stand in the list of the pixel form one chain, and these are its payloads. If each number stands once among the
-- entries, there is no second chain.
pub record IsListAt (p : ℕ) (es : List Entry) (payloads : List ℕ) : Type 0 where
  pub chain : List Entry
  pub all : IsPermutation chain (at_pixel p es)
  pub chained : AreChained chain
  pub payloads_are : payloads ≡ map payload_in chain
