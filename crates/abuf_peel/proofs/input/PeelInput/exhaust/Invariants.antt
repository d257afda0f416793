use Rattle.std.proofs.Common.{◌≡◌, ◌*◌}
use Rattle.abuf_peel.specs.Layers.{StandsFor}
use Rattle.abuf_peel.specs.Members.{HaveLeft}
use Rattle.abuf_peel.proofs.input.PeelInput.exhaust.Given as goal

abbrev pub invariant-loop-n : goal.invariant-loop-n
invariant-loop-n l = record {
  stands : StandsFor l.self.background l.self.tris.now l.self.paints.now (l._n * 16) l.layer;
  region : l.layer.region ≡ l.fn.layer.region;
  pattern : l.layer.pattern ≡ l.fn.layer.pattern;
  members : HaveLeft l.self.tris.now l.layer.region l.layer.pattern l.layer.from l.members.items;
}
