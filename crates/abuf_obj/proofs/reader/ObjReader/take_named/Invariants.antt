use Rattle.std.proofs.Common.{◌++◌, take, List, ℕ}
use Rattle.abuf_obj.specs.Pieces.{texts, HasNames}
use Rattle.abuf_obj.proofs.reader.ObjReader.take_named.Given as goal

abbrev pub invariant-loop-line : goal.invariant-loop-line
invariant-loop-line l = (before : List (List ℕ)) → HasNames before l.fn.self → HasNames (before ++ texts (take l.line-index l.lines)) l.self
