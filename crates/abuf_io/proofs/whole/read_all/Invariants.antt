use Rattle.std.proofs.Common.{◌≤◌, ◌+◌, ◌-◌, length}
use Rattle.std.specs.Io.KnownBytes.{Consumes}
use Rattle.abuf_io.proofs.whole.read_all.Given as goal

abbrev pub invariant-reading : goal.invariant-reading
invariant-reading g l =
    (g.S.Source.faults l.fn.src ≤ g.S.Source.faults l.src)
    × (length l.bytes.items ≤ l.limit + 1)
    × Consumes (g.S.Source.left l.fn.src) (g.S.Source.left l.src) l.bytes.items

abbrev pub decreases-reading : goal.decreases-reading
decreases-reading g l = l.limit + 1 - length l.bytes.items
