use Rattle.std.proofs.Common.{◌≡◌, ◌≤◌, ◌+◌, ℕ, List, [], true, drop}
use Rattle.abuf_mtl.specs.StandsFor.{StandsFor}
use Rattle.abuf_top.proofs.Asking.{StandsSoFar}
use Rattle.abuf_top.proofs.libraries.read_libraries.Given as goal

abbrev pub invariant-loop-name : goal.invariant-loop-name
invariant-loop-name g l = record {
  number : l.number ≡ l.name-index;
  tells : g.H.Shelf.tells l.shelf ≡ g.H.Shelf.tells l.fn.shelf;
  holds : (other : List ℕ) → g.H.Shelf.holds l.shelf other ≡ g.H.Shelf.holds l.fn.shelf other;
  most : g.H.Shelf.calls l.shelf ≤ g.H.Shelf.calls l.fn.shelf + l.name-index;
  later : g.H.Shelf.faults l.fn.shelf ≤ g.H.Shelf.faults l.shelf;
  none : l.names ≡ [] → (StandsFor [] l.materials) × (g.H.Shelf.calls l.shelf ≡ g.H.Shelf.calls l.fn.shelf) × (g.H.Shelf.faults l.shelf ≡ g.H.Shelf.faults l.fn.shelf);
  told : g.H.Shelf.tells l.fn.shelf ≡ true → StandsSoFar (g.H.Shelf.holds l.fn.shelf) (l.name-index) l.materials (drop l.name-index l.names) l.names;
}
