-- What the looks of a watcher were. Contracts see each as its walk along the list of a pixel.
use Rattle.std.specs.Prelude.{◌≡◌, ℕ, ◌+◌, ◌%◌, ◌≤◌, ◌==◌, Bool, true, false, if◌then◌else◌, nat_lt, List, ◌∷◌, [], ◌++◌, length, map, count_by, slice_index_or}
use Rattle.std.specs.List.{AllByRecursion, range_with_len}
use Rattle.abuf_frame.specs.declared.view.Walk.{Walk}
use Rattle.abuf_frame.specs.declared.view.View.{View}
use Rattle.abuf_frame.specs.Views.{due_of}
use Rattle.abuf_frame.specs.Walks.{AllMet}
use Rattle.abuf_watching.specs.declared.looks.Looks.{Looks}

-- The walk reached the end of the list.
abbrev pub is_whole : Walk → Bool
is_whole w = w.cursor == 0

-- The walk stopped before the end, though the slice, which has room for so many payloads, wasn't full: it met a node that wasn't linked.
abbrev pub is_stopped : ℕ → Walk → Bool
is_stopped room w = if w.cursor == 0 then false else nat_lt (length w.passed) room

-- The walk stopped before the end, and the slice was full.
abbrev pub is_short : ℕ → Walk → Bool
is_short room w = if w.cursor == 0 then false else (if nat_lt (length w.passed) room then false else true)

-- The counts are those of the looks of each kind.
pub record AreCounts (room : ℕ) (walks : List Walk) (looks : Looks) : Type 0 where
  pub whole : looks.whole ≡ count_by is_whole walks
  pub unlinked : looks.unlinked ≡ count_by (is_stopped room) walks
  pub more : looks.more ≡ count_by (is_short room) walks
  pub all : looks.whole + looks.unlinked + looks.more ≡ length walks

-- The look had to find what its pass knew of the pixel at v, and found it if it reached the end of the list.
pub record FindsDue (v : View) (w : Walk) : Type 0 where
  pub due : w.due ≡ due_of w.pixel v
  pub met : w.cursor ≡ 0 → AllMet w

-- The pixel of the look with this number, where one after another is looked at, over and over.
abbrev pub turn_at : List ℕ → ℕ → ℕ
turn_at places turn = slice_index_or places (turn % length places) 0

-- From v to w nothing has changed but these walks and the count that was seen.
pub record Saw (walks : List Walk) (v w : View) : Type 0 where
  pub credit : w.credit ≡ v.credit
  pub entries : w.entries ≡ v.entries
  pub told : w.told ≡ v.told
  pub seen : v.seen ≤ w.seen
  pub walks_are : w.walks ≡ v.walks ++ walks

-- From v to w a pass has looked once, by this walk, at the pixel at this place, and the counts went from `old` to `new`.
pub record LooksOnce (room place : ℕ) (x : Walk) (v w : View) (old new : Looks) : Type 0 where
  pub here : x.pixel ≡ place
  pub saw : Saw (x ∷ []) v w
  pub found : FindsDue v x
  pub first : new.first ≡ old.first
  pub last : new.last ≡ w.seen
  pub whole : new.whole ≡ old.whole + (if is_whole x then 1 else 0)
  pub unlinked : new.unlinked ≡ old.unlinked + (if is_stopped room x then 1 else 0)
  pub more : new.more ≡ old.more + (if is_short room x then 1 else 0)

-- From v to w a pass has looked at the pixels at these places in turn, with a slice of so much room, and these are its counts.
pub record LooksAround (room : ℕ) (places : List ℕ) (v w : View) (looks : Looks) : Type 0 where
  pub walks : List Walk
  pub saw : Saw walks v w
  pub turns : map (λ x. x.pixel) walks ≡ map (turn_at places) (range_with_len 0 (length walks))
  pub found : AllByRecursion (FindsDue v) walks
  pub counts : AreCounts room walks looks
  pub before : v.seen ≤ looks.first
  pub between : looks.first ≤ looks.last
  pub after : looks.last ≡ w.seen
