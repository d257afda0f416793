-- What contracts see of a frame.
use Rattle.std.specs.Prelude.{◌≡◌, ℕ, ◌+◌, ◌*◌}
use Rattle.atomic_table.specs.Seated.{TableId}
use Rattle.abuf_frame.specs.declared.view.FrameSize.{FrameSize}
use Rattle.abuf_frame.specs.Words.{Sized}

-- the table of a frame, by which frames are told apart, and its size
pub record Shape : Type 0 where
  pub table : TableId
  pub pixels : ℕ
  pub nodes : ℕ

-- what ties the fields of a frame
pub record Fits (table : TableId) (key : FrameSize) (pixels nodes : ℕ) : Type 0 where
  pub sized : Sized pixels nodes
  pub words : table.words ≡ 1 + pixels + 2 * nodes
  pub slots : table.slots ≡ 0
  pub key_is : key ≡ record { pixels = pixels; nodes = nodes }
