use Rattle.std.proofs.Common.{◌≡◌, take}
use Rattle.abuf_uses.proofs.drawing.lists_of.Given as goal

abbrev pub invariant-loop-pixel : goal.invariant-loop-pixel
invariant-loop-pixel l = record {
  frame : l.reader.frame ≡ l.closed;
  lists : l.lists ≡ take l.pixel l.closed.lists;
}
