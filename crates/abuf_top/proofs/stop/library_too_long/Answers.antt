use Rattle.std.proofs.Common.{append_assoc, rules}
use Rattle.abuf_top.proofs.stop.library_too_long.Goals as goal

pub returns : goal.returns
returns c = search (rules, append_assoc)
