use Rattle.std.proofs.Common.{◌≡◌}
use Rattle.abuf_peel.specs.Layers.{StandsFor}
use Rattle.abuf_uses.proofs.layers.lowest_layers.Given as goal

abbrev pub invariant-loop-step : goal.invariant-loop-step
invariant-loop-step l = record {
  region : l.layer.region ≡ l.fn.region;
  pattern : l.layer.pattern ≡ l.fn.pattern;
  stands : StandsFor l.fn.background l.tris l.paints l._step l.layer;
}
