use Rattle.std.proofs.Common.{◌≡◌, ◌++◌, map, take}
use Rattle.std.specs.List.{flat_map}
use Rattle.std.specs.String.{string_bytes}
use Rattle.abuf_resolve.specs.Words.{layer_of}
use Rattle.abuf_top.specs.Report.{layer_text}
use Rattle.abuf_top.proofs.report.push_layers.Given as goal

abbrev pub invariant-loop-word : goal.invariant-loop-word
invariant-loop-word l = string_bytes l.text ≡ string_bytes l.fn.text ++ flat_map layer_text (map layer_of (take l.word-index l.words))
