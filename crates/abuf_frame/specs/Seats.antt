-- What a step at a word of the table asks of the seat that makes it, and what it ensures.
use Rattle.std.specs.Prelude.{◌≡◌, ℕ, ◌<◌, []}
use Rattle.atomic_table.specs.Seated.{TableId}
use Rattle.atomic_table.specs.Table.{Allows, Splits}
use Rattle.atomic_table.specs.declared.shared.Seat.{Seat}
use Rattle.abuf_frame.specs.declared.view.FrameSize.{FrameSize}
use Rattle.abuf_frame.specs.declared.view.View.{View}
use Rattle.abuf_frame.specs.Lawful.{Lawful}

-- The seat is one of the table's, and may put f of what it finds at the word: in each lawful state the outcome is lawful, where
-- the seat's view is `after` of what it found, and that shows `shows` of it.
abbrev pub MayStep : FrameSize → TableId → Seat (Unit {0}) View → ℕ → (ℕ → ℕ) → (ℕ → View) → (ℕ → Type 0) → Type 0
MayStep key table seat word f after shows = (seat.table_id ≡ table) × (word < table.words)
    × Allows (Lawful key) table.slots seat.id seat.me word f (λ found now. (now ≡ (after found, [])) × shows found)

-- the seat may store this: like MayStep, where what is stored decides the outcome
abbrev pub MayStore : FrameSize → TableId → Seat (Unit {0}) View → ℕ → ℕ → View → Type 0 → Type 0
MayStore key table seat word stored view shown = MayStep key table seat word (λ _. stored) (λ _. view) (λ _. shown)

-- The seat is one of the table's, and its view may be split into these two.
abbrev pub MaySplit : FrameSize → TableId → Seat (Unit {0}) View → View → View → Type 0
MaySplit key table seat left right = (seat.table_id ≡ table) × (0 < table.words) × Splits (Lawful key) seat.id seat.me.0 left right

-- the seat is the same and has this view
abbrev pub HasView : Seat (Unit {0}) View → Seat (Unit {0}) View → View → Type 0
HasView old new view = (new.table_id ≡ old.table_id) × (new.id ≡ old.id) × (new.me ≡ (view, old.me.1))

-- the seat is the same, has this view, and the step has shown this
abbrev pub HasStepped : Seat (Unit {0}) View → Seat (Unit {0}) View → View → Type 0 → Type 0
HasStepped old new view shown = (new.table_id ≡ old.table_id) × (new.id ≡ old.id) × (new.me ≡ (view, [])) × shown
