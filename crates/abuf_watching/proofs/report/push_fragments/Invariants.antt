use Rattle.std.proofs.Common.{◌≡◌, ◌++◌, map, take}
use Rattle.std.specs.List.{flat_map}
use Rattle.std.specs.String.{string_bytes}
use Rattle.abuf_raster.specs.Packing.{unpacked}
use Rattle.abuf_watching.specs.Report.{fragment_text}
use Rattle.abuf_watching.proofs.report.push_fragments.Given as goal

abbrev pub invariant-loop-word : goal.invariant-loop-word
invariant-loop-word l = string_bytes l.text ≡ string_bytes l.fn.text ++ flat_map fragment_text (map unpacked (take l.word-index l.words))
