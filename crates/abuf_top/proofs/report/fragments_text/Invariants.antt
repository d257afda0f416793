use Rattle.std.proofs.Common.{◌≡◌, ◌++◌, length, map, take, codes}
use Rattle.std.specs.String.{string_bytes}
use Rattle.std.specs.Fmt.{decimal}
use Rattle.std.specs.List.{flat_map}
use Rattle.abuf_raster.specs.Packing.{unpacked}
use Rattle.abuf_top.specs.Report.{fragment_line}
use Rattle.abuf_top.proofs.report.fragments_text.Given as goal

abbrev pub invariant-loop-word : goal.invariant-loop-word
invariant-loop-word l = string_bytes l.text ≡ codes "fragments " ++ decimal (length l.words) ++ codes "\n" ++ flat_map fragment_line (map unpacked (take l.word-index l.words))
