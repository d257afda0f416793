-- What drawing on threads adds to a pass.
use Rattle.std.specs.Prelude.{◌≡◌, ℕ, ◌+◌, ◌⊎◌, List, ◌++◌, length, All, true}
use Rattle.std.specs.List.{Contains}
use Rattle.abuf_frame.specs.declared.view.Entry.{Entry}
use Rattle.abuf_frame.specs.declared.view.View.{View}
use Rattle.abuf_frame.specs.Stages.{is_linked}
use Rattle.abuf_frame.specs.Draws.{Adds}

-- a Linked entry of the pass's own
abbrev pub IsOwn : View → Entry → Type 0
IsOwn v e = Contains v.entries e × (is_linked e.stage ≡ true)

-- the entry was told of before, at v, or is Linked and the pass's own at the end, at w
abbrev pub IsKnown : View → View → Entry → Type 0
IsKnown v w e = Contains v.told e ⊎ IsOwn w e

-- From v to w these items were drawn, by this pass or by others that were split off from it and joined: there are new entries
-- for them, as much credit was spent, and nothing else has changed but what the pass is told of. That may grow, by its own
-- Linked entries, and by those that it was told of before, once more.
pub record Grows (items : List (ℕ × ℕ)) (v w : View) : Type 0 where
  pub added : List Entry
  pub adds : Adds items added
  pub entries_are : w.entries ≡ v.entries ++ added
  pub spent : w.credit + length items ≡ v.credit
  pub news : List Entry
  pub told_are : w.told ≡ v.told ++ news
  pub told_own : All (IsKnown v w) news
  pub seen_is : w.seen ≡ v.seen
  pub walks_are : w.walks ≡ v.walks
