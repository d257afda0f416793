use Rattle.std.proofs.Common.{append_assoc, rules}
use Rattle.abuf_top.proofs.stop.image_of_sequence_full.Goals as goal

pub returns : goal.returns
returns c = search (rules, append_assoc)
