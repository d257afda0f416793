use Rattle.std.proofs.Common.{◌≡◌, ◌<◌, ◌^◌, drop}
use Rattle.abuf_obj.specs.Elements.{spelled_from}
use Rattle.abuf_obj.proofs.element.spelled_out.Given as goal

abbrev pub invariant-loop-b : goal.invariant-loop-b
invariant-loop-b l = record {
  same : spelled_from l.n (drop l.b-index l.text) ≡ spelled_from 0 l.text;
  small : l.n < 10 ^ l.b-index;
}
