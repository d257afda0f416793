-- Items that wait until several are drawn by one claim.
use Rattle.std.specs.Prelude.{ℕ, Bool, IsTrue, List, ◌++◌, IsPermutation}
use Rattle.abuf_frame.specs.declared.view.View.{View}
use Rattle.abuf_frame.specs.Views.{Below}
use Rattle.abuf_frame.specs.Draws.{Draws}

-- Some items waited, and more came. From v to w some of them all were drawn, and the others wait.
pub record Passes (waited came waits : List (ℕ × ℕ)) (v w : View) : Type 0 where
  pub out : List (ℕ × ℕ)
  pub drawn : Draws out v w
  pub same : IsPermutation (out ++ waits) (waited ++ came)

-- Where the pool is said to be full, the pass has an entry whose number has no node.
abbrev pub KnowsFull : Bool → ℕ → View → Type 0
KnowsFull full nodes v = IsTrue full → ¬ (Below nodes v.entries)
