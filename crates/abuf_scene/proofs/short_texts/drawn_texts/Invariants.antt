use Rattle.std.proofs.Common.{◌≡◌, length}
use Rattle.abuf_scene.specs.Drawing.{AreDrawn}
use Rattle.abuf_scene.proofs.short_texts.drawn_texts.Given as goal

abbrev pub invariant-loop-i : goal.invariant-loop-i
invariant-loop-i l = record {
  drawn : AreDrawn l.number_texts.items;
  count : length l.number_texts.items ≡ l.i;
}
