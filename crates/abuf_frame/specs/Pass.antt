-- What contracts see of a pass, and what ties its fields to its view.
use Rattle.std.specs.Prelude.{◌≡◌, ℕ, ◌^◌, ◌<◌, ◌≤◌, List, [], length}
use Rattle.std.specs.List.{AllByRecursion}
use Rattle.atomic_table.specs.Table.{Me}
use Rattle.abuf_frame.specs.declared.view.Stage.{Stage}
use Rattle.abuf_frame.specs.declared.view.Stage.TheVariants.{Claimed, Filled, Swapped, Linked, Lost}
use Rattle.abuf_frame.specs.declared.view.Entry.{Entry}
use Rattle.abuf_frame.specs.declared.view.View.{View}
use Rattle.abuf_frame.specs.Views.{endowment, loose}
use Rattle.abuf_frame.specs.Frame.{Shape}

-- the frame that a pass belongs to, and what the pass knows
pub record PassState : Type 0 where
  pub frame : Shape
  pub view : View

-- the number has a node exactly where the entry is not Lost, and its pixel is one of the frame's
abbrev pub InRange : ℕ → ℕ → ℕ → Stage → Type 0
InRange pixels nodes n Claimed = n < nodes
InRange pixels nodes n (Filled pixel payload) = (n < nodes) × (pixel < pixels)
InRange pixels nodes n (Swapped pixel payload old) = (n < nodes) × (pixel < pixels)
InRange pixels nodes n (Linked pixel payload old) = (n < nodes) × (pixel < pixels)
InRange pixels nodes n Lost = nodes ≤ n

abbrev pub AllInRange : ℕ → ℕ → List Entry → Type 0
AllInRange pixels nodes es = AllByRecursion (λ e. InRange pixels nodes e.number e.stage) es

-- A pass holds no slot of the table. Its fields are its credit, the number of its entries, and how many of them are loose.
pub record Ties (pixels nodes : ℕ) (me : Me (Unit {0}) View) (credit own ones : ℕ) : Type 0 where
  pub bare : me.1 ≡ []
  pub credit_is : credit ≡ me.0.credit
  pub own_is : own ≡ length me.0.entries
  pub loose_is : ones ≡ loose me.0.entries
  pub small : endowment me.0 ≤ 2 ^ 60
  pub sound : AllInRange pixels nodes me.0.entries
