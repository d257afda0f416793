use Rattle.std.proofs.Common.{◌≡◌, ◌+◌, ◌≤◌, ◌^◌, length}
use Rattle.abuf_frame.specs.Views.{Below}
use Rattle.abuf_frame.proofs.Runs.{Run}
use Rattle.abuf_frame.proofs.pass.Pass.insert_each.Given as goal

abbrev pub invariant-loop-i : goal.invariant-loop-i
invariant-loop-i l = (l.self.frame ≡ l.fn.self.frame) × (l.first + length l.items ≤ 2 ^ 60) × Below l.first l.fn.self.view.entries × Run l.fn.frame.nodes l.first (length l.items) l.items l.i l.fn.self.view l.self.view
