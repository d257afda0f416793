-- What a pass knows: its credit, which is how many numbers it may still claim, its entries, the Linked entries of others that
-- it was told of when it was split off, the greatest count that it has seen, and its walks.
use Rattle.std.specs.Prelude.{◌≡◌, ℕ, ◌+◌, ◌^◌, ◌<◌, if◌then◌else◌, ◌==◌, List, [], ◌∷◌, ◌++◌, length, map, count_by, filter, Option, Some, None}
use Rattle.std.specs.List.{AllByRecursion}
use Rattle.abuf_frame.specs.declared.view.Stage.{Stage}
use Rattle.abuf_frame.specs.declared.view.Entry.{Entry}
use Rattle.abuf_frame.specs.declared.view.View.{View}
use Rattle.abuf_frame.specs.Stages.{is_linked, is_lost, is_loose, stands}

-- how many numbers the pass has claimed and may still claim
abbrev pub endowment : View → ℕ
endowment v = v.credit + length v.entries

-- the pass has the endowment of all passes of its frame together, so that no other has credit or entries
abbrev pub IsWhole : View → Type 0
IsWhole v = endowment v ≡ 2 ^ 60

-- how many of the entries are neither Linked nor Lost
abbrev pub loose : List Entry → ℕ
loose es = count_by (λ e. is_loose e.stage) es

-- each entry of the pass is Linked or Lost
abbrev pub IsSettled : View → Type 0
IsSettled v = loose v.entries ≡ 0

-- how many of the entries are Lost
abbrev pub lost : List Entry → ℕ
lost es = count_by (λ e. is_lost e.stage) es

abbrev pub number_of : Entry → ℕ
number_of e = e.number

-- the numbers that the pass has claimed
abbrev pub numbers : View → List ℕ
numbers v = map number_of v.entries

-- every number is below the count
abbrev pub Below : ℕ → List Entry → Type 0
Below count es = AllByRecursion (λ e. e.number < count) es

-- the stage of the entry n, if there is one
abbrev pub stage_of : ℕ → List Entry → Option Stage
stage_of n [] = None
stage_of n (e ∷ es) = if e.number == n then Some e.stage else stage_of n es

-- the Linked ones of the entries
abbrev pub linked_of : List Entry → List Entry
linked_of es = filter (λ e. is_linked e.stage) es

-- the entries that stand in the list of the pixel
abbrev pub at_pixel : ℕ → List Entry → List Entry
at_pixel p es = filter (λ e. stands p e.stage == 1) es

-- the entries that the pass knows to stand in the list of the pixel: its own Linked ones there, and those that it was told of
abbrev pub due_of : ℕ → View → List Entry
due_of p v = at_pixel p (linked_of v.entries ++ v.told)

-- the view of the pass that `start` gives
abbrev pub whole_view : View
whole_view = record { credit = 2 ^ 60; entries = []; told = []; seen = 0; walks = [] }

-- the view that remains of a pass that was joined into another
abbrev pub spent_view : View
spent_view = record { credit = 0; entries = []; told = []; seen = 0; walks = [] }
