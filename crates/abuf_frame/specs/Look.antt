-- What a look answers, by the walk that it made.
use Rattle.std.specs.Prelude.{◌≡◌, ◌≢◌, ℕ, ◌+◌, ◌<◌, ◌≤◌, true, List, [], ◌++◌, length, map, take, drop, IsPermutation}
use Rattle.abuf_frame.specs.declared.view.Walk.{Walk}
use Rattle.abuf_frame.specs.declared.view.View.{View}
use Rattle.abuf_frame.specs.declared.look.Look.{Look}
use Rattle.abuf_frame.specs.declared.look.Look.TheVariants.{All, More, Unlinked}
use Rattle.abuf_frame.specs.Chains.{IsListAt}
use Rattle.abuf_frame.specs.Views.{IsWhole, IsSettled, due_of}
use Rattle.abuf_frame.specs.Walks.{AllMet, payload_at}
use Rattle.abuf_frame.specs.Draws.{pairs, payloads_at}

-- `All` where the walk has reached the end, with each due entry passed. `More` where it stands at a further node and the slice
-- was full. `Unlinked` where the slice had room, and the last load, of the next of the node at which it stands, found the mark.
abbrev pub IsLook : Look → Walk → ℕ → Type 0
IsLook (All count) w room = (w.cursor ≡ 0) × (count ≡ length w.passed) × AllMet w
IsLook More w room = (w.cursor ≢ 0) × (length w.passed ≡ room)
IsLook (Unlinked node) w room = (w.cursor ≡ node + 1) × (w.unlinked ≡ true) × (length w.passed < room)

-- the payloads of the nodes passed stand first in the new slice, and the rest is as it was
abbrev pub Written : Walk → List ℕ → List ℕ → Type 0
Written w old new = (length new ≡ length old) × (length w.passed ≤ length old) × (new ≡ map payload_at w.passed ++ drop (length w.passed) old)

-- For a pass that is whole and settled, the payloads of the nodes passed are the first of all those of its entries at the
-- pixel, in the order of the list, and are all of them where the walk has reached the end.
abbrev pub SeesWhole : View → Walk → Type 0
SeesWhole v w = IsWhole v → IsSettled v → (rest : List ℕ) × IsPermutation (map payload_at w.passed ++ rest) (payloads_at w.pixel (pairs v.entries))
    × (w.cursor ≡ 0 → rest ≡ [])

-- What a look at a list that nobody changes leaves in the slice: after `All` the whole list stands first, and after `More` the
-- slice is full of the first payloads of a longer one.
abbrev pub ShowsList : Look → List ℕ → List ℕ → Type 0
ShowsList (All count) list slice = (count ≡ length list) × (take count slice ≡ list)
ShowsList More list slice = (length slice < length list) × (take (length slice) list ≡ slice)
ShowsList (Unlinked node) list slice = ⊥

-- a look by a pass that knew v, whole and settled, finds the pixel's list: by its answer, this is what it left in the slice
abbrev pub FindsList : ℕ → View → Look → List ℕ → Type 0
FindsList pixel v look slice = IsWhole v → IsSettled v → (list : List ℕ) × IsListAt pixel v.entries list × ShowsList look list slice

-- By a pass that knew v, a look at the pixel made the walk w, answered `look`, and changed the slice from `old` to `new`.
pub record Looked (pixel : ℕ) (v : View) (old new : List ℕ) (look : Look) (w : Walk) : Type 0 where
  pub here : w.pixel ≡ pixel
  pub due : w.due ≡ due_of pixel v
  pub answer : IsLook look w (length old)
  pub written : Written w old new
  pub whole : SeesWhole v w
