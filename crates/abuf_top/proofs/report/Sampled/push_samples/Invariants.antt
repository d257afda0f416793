use Rattle.std.proofs.Common.{◌≡◌, ◌++◌}
use Rattle.std.specs.String.{string_bytes}
use Rattle.abuf_raster.specs.Samples.{offsets_of}
use Rattle.abuf_top.specs.Report.{samples_text}
use Rattle.abuf_top.proofs.report.Sampled.push_samples.Given as goal

abbrev pub invariant-loop-k : goal.invariant-loop-k
invariant-loop-k l = string_bytes l.text ≡ string_bytes l.fn.text ++ samples_text (offsets_of l.self.pattern) l.self.planes l.self.at.x l.self.at.y l.k
