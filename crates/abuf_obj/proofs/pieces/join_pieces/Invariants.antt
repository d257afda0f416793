use Rattle.std.proofs.Common.{List, ℕ}
use Rattle.abuf_obj.specs.Pieces.{HavePieces}
use Rattle.abuf_obj.proofs.Parts.{AreJoined}
use Rattle.abuf_obj.proofs.pieces.join_pieces.Given as goal

abbrev pub invariant-loop-reader : goal.invariant-loop-reader
invariant-loop-reader l = (before ls : List (List ℕ)) → HavePieces l.fn.readers.items before ls → AreJoined before ls l.all l.reader-iterator.rest.items
