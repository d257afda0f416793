-- How far an entry has come. A claimed number is an entry of the pass that claimed it. Where it has a node it goes through
-- four stages, each by one step: Claimed, Filled with its payload, Swapped into the head of its pixel's list, and Linked to
-- the node that was the head before. Where it has none it is Lost.
use Rattle.std.specs.Prelude.{◌≡◌, ℕ, ◌<◌, if◌then◌else◌, ◌==◌, Bool, true, false, Option, Some}
use Rattle.abuf_frame.specs.declared.view.Stage.{Stage}
use Rattle.abuf_frame.specs.declared.view.Stage.TheVariants.{Claimed, Filled, Swapped, Linked, Lost}
use Rattle.abuf_frame.specs.Words.{mark}

-- the stage after a store of the payload
abbrev pub filled : ℕ → ℕ → Stage → Stage
filled pixel payload Claimed = Filled pixel payload
filled pixel payload other = other

-- the stage after an exchange of the head that found the word `old`
abbrev pub swapped : ℕ → Stage → Stage
swapped old (Filled pixel payload) = Swapped pixel payload old
swapped old other = other

-- the stage after a store of the next
abbrev pub linked : Stage → Stage
linked (Swapped pixel payload old) = Linked pixel payload old
linked other = other

-- the stage after all three
abbrev pub linked_in : ℕ → ℕ → ℕ → Stage → Stage
linked_in pixel payload old stage = linked (swapped old (filled pixel payload stage))

abbrev pub is_linked : Stage → Bool
is_linked (Linked _ _ _) = true
is_linked _ = false

abbrev pub is_lost : Stage → Bool
is_lost Lost = true
is_lost _ = false

-- whether it is neither Linked nor Lost
abbrev pub is_loose : Stage → Bool
is_loose (Linked _ _ _) = false
is_loose Lost = false
is_loose _ = true

abbrev pub payload_of : Stage → ℕ
payload_of (Filled pixel payload) = payload
payload_of (Swapped pixel payload old) = payload
payload_of (Linked pixel payload old) = payload
payload_of _ = 0

-- the head that it took the place of
abbrev pub old_of : Stage → ℕ
old_of (Swapped pixel payload old) = old
old_of (Linked pixel payload old) = old
old_of _ = 0

-- 1 where an entry of this stage stands in the list of the pixel, and else 0
abbrev pub stands : ℕ → Stage → ℕ
stands p (Swapped pixel payload old) = if pixel == p then 1 else 0
stands p (Linked pixel payload old) = if pixel == p then 1 else 0
stands p _ = 0

-- an entry of this stage stands in the list of the pixel, and its old head is the word h
abbrev pub Precedes : Stage → ℕ → ℕ → Type 0
Precedes (Swapped pixel payload old) p h = (pixel ≡ p) × (old ≡ h)
Precedes (Linked pixel payload old) p h = (pixel ≡ p) × (old ≡ h)
Precedes _ p h = ⊥

-- from Filled to Linked, its payload is in the payload word, and its pixel is one of the frame's
abbrev pub Stores : ℕ → ℕ → Stage → Type 0
Stores pixels word (Filled pixel payload) = (pixel < pixels) × (word ≡ payload)
Stores pixels word (Swapped pixel payload old) = (pixel < pixels) × (word ≡ payload)
Stores pixels word (Linked pixel payload old) = (pixel < pixels) × (word ≡ payload)
Stores pixels word _ = Unit {0}

-- the next word of a node whose entry has this stage
abbrev pub next_of : Stage → ℕ
next_of (Linked pixel payload old) = old
next_of _ = mark

-- there is an entry, and it is Filled with this pixel
abbrev pub IsFilled : ℕ → Option Stage → Type 0
IsFilled p (Some (Filled pixel payload)) = pixel ≡ p
IsFilled p _ = ⊥

-- there is an entry, and it is Swapped with this old head
abbrev pub IsSwapped : ℕ → Option Stage → Type 0
IsSwapped h (Some (Swapped pixel payload old)) = old ≡ h
IsSwapped h _ = ⊥
