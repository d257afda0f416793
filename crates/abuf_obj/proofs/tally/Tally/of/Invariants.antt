use Rattle.std.proofs.Common.{◌≡◌, ◌++◌}
use Rattle.abuf_text.specs.Lines.{lines}
use Rattle.abuf_obj.specs.Pieces.{texts, IsTally}
use Rattle.abuf_obj.proofs.tally.Tally.of.Given as goal

abbrev pub invariant-loop-line : goal.invariant-loop-line
invariant-loop-line l = record {
  together : texts l.yielded ++ l.line-iterator ≡ lines l.fn.bytes;
  tally : IsTally (texts l.yielded) l.tally;
}
