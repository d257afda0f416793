-- What drawing adds to a pass: for each item, which is a pixel and a payload, an entry that is Linked with it or Lost.
use Rattle.std.specs.Prelude.{◌≡◌, ℕ, ◌+◌, ◌≤◌, ◌==◌, List, [], ◌∷◌, ◌++◌, length, map, filter, IsPermutation}
use Rattle.abuf_frame.specs.declared.view.Stage.{Stage}
use Rattle.abuf_frame.specs.declared.view.Stage.TheVariants.{Linked, Lost}
use Rattle.abuf_frame.specs.declared.view.Entry.{Entry}
use Rattle.abuf_frame.specs.declared.view.View.{View}
use Rattle.abuf_frame.specs.Views.{loose, lost}
use Rattle.abuf_frame.specs.Steps.{grown}

-- the pixel and the payload of a Linked entry, before those of the others
abbrev pub with_pair : Stage → List (ℕ × ℕ) → List (ℕ × ℕ)
with_pair (Linked pixel payload old) rest = (pixel, payload) ∷ rest
with_pair _ rest = rest

-- the pixel and the payload of each Linked entry
abbrev pub pairs : List Entry → List (ℕ × ℕ)
pairs [] = []
pairs (e ∷ es) = with_pair e.stage (pairs es)

-- the payloads of the pairs that have this pixel
abbrev pub payloads_at : ℕ → List (ℕ × ℕ) → List ℕ
payloads_at p items = map (λ x. x.1) (filter (λ x. x.0 == p) items)

-- There are as many entries as items, each Linked or Lost. The pairs of the Linked ones are items, each at most as often as it
-- stands there: with a rest, of as many as are Lost, they are the items in some order. Where none is Lost, they are so alone.
pub record Adds (items : List (ℕ × ℕ)) (es : List Entry) : Type 0 where
  pub count : length es ≡ length items
  pub settled : loose es ≡ 0
  pub carried : lost es ≡ 0 → IsPermutation (pairs es) items
  pub rest : List (ℕ × ℕ)
  pub missing : length rest ≡ lost es
  pub kept : IsPermutation (pairs es ++ rest) items

-- From v to w these items were drawn: there are new entries for them, as much credit was spent, and nothing else has changed.
pub record Draws (items : List (ℕ × ℕ)) (v w : View) : Type 0 where
  pub added : List Entry
  pub adds : Adds items added
  pub fits : length added ≤ v.credit
  pub after : w ≡ grown added v

-- the entry is Linked with this pixel and payload, or Lost
abbrev pub CarriesItem : ℕ → ℕ → Stage → Type 0
CarriesItem p y (Linked pixel payload old) = (pixel ≡ p) × (payload ≡ y)
CarriesItem p y Lost = Unit {0}
CarriesItem p y _ = ⊥

-- the entries have the numbers from `first` on, and each carries the item at its place
abbrev pub CarryInOrder : ℕ → List (ℕ × ℕ) → List Entry → Type 0
CarryInOrder first [] [] = Unit {0}
CarryInOrder first (x ∷ xs) (e ∷ es) = (e.number ≡ first) × CarriesItem x.0 x.1 e.stage × CarryInOrder (first + 1) xs es
CarryInOrder first _ _ = ⊥
