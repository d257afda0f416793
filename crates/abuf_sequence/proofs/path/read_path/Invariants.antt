use Rattle.std.proofs.Common.{◌+◌, ◌≤◌, length}
use Rattle.std.specs.List.{All}
use Rattle.abuf_text.specs.Lines.{lines}
use Rattle.abuf_sequence.specs.Paths.{IsShot}
use Rattle.abuf_sequence.proofs.Reading.{HasRead}
use Rattle.abuf_sequence.proofs.path.read_path.Given as goal

abbrev pub invariant-loop-line : goal.invariant-loop-line
invariant-loop-line l = record {
  read : HasRead (lines l.fn.bytes) l.line-iterator l.number l.shots;
  count : l.number + length l.line-iterator ≤ length l.fn.bytes + 1;
  sound : All IsShot l.shots;
  few : length l.shots ≤ 4096;
}
