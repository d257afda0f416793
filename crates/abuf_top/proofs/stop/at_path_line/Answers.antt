use Rattle.std.proofs.Common.{append_assoc, rules}
use Rattle.abuf_top.proofs.stop.at_path_line.Goals as goal

pub returns : goal.returns
returns c = search (rules, append_assoc)
