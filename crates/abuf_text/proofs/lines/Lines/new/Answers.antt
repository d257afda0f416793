use Rattle.std.proofs.Common.{◌∙◌, ap, arith}
use Rattle.std.proofs.lemmas.List.{length-map}
use Rattle.bstr.specs.Records.{trim_record}
use Rattle.abuf_text.specs.Split.{trimmed}
use Rattle.abuf_text.proofs.SplitLines.{trimmed-lines_of}
use Rattle.abuf_text.proofs.lines.Lines.new.Goals as goal

pub returns : goal.returns
returns c = record {
  lines = ap trimmed c.lines_with_terminator.ensures.value ∙ trimmed-lines_of c.args.bytes.now;
  count = omega (arith, length-map c.lines_with_terminator.result (trim_record 10), c.lines_with_terminator.ensures.len);
}
