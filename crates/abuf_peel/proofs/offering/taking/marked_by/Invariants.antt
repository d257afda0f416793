use Rattle.std.proofs.Common.{◌≡◌, take}
use Rattle.abuf_peel.specs.Taking.{marked_by}
use Rattle.abuf_peel.proofs.offering.taking.marked_by.Given as goal

abbrev pub invariant-loop-i : goal.invariant-loop-i
invariant-loop-i l = l.mark ≡ marked_by (take l.i l.words) l.from
