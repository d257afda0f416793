use Rattle.std.proofs.Common.{length, ap, sym, ◌∙◌}
use Rattle.abuf_frame.proofs.Closes.{lists_length}
use Rattle.abuf_frame.proofs.closed.Closed.pixels.Goals as goal

pub returns-clause-lists : goal.returns-clause-lists
returns-clause-lists c = sym (ap (λ h. length h.lists) c.self.view_is) ∙ lists_length c.self.inside.words c.self.inside.pixels c.self.inside.table_nodes 0 c.self.inside.pixels
