use Rattle.std.proofs.Common.{◌≡◌, take}
use Rattle.abuf_peel.specs.Taking.{painted_by}
use Rattle.abuf_peel.proofs.offering.taking.painted_by.Given as goal

abbrev pub invariant-loop-i : goal.invariant-loop-i
invariant-loop-i l = l.colour ≡ painted_by l.paints (take l.i l.words) l.fn.under
