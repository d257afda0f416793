use Rattle.std.proofs.Common.{◌≡◌, ◌++◌, take}
use Rattle.std.specs.List.{flat_map}
use Rattle.std.specs.String.{string_bytes}
use Rattle.abuf_raster.specs.Samples.{offsets_of}
use Rattle.abuf_watching.specs.Report.{place_line}
use Rattle.abuf_watching.proofs.report.push_places.Given as goal

abbrev pub invariant-loop-i : goal.invariant-loop-i
invariant-loop-i l = string_bytes l.text ≡ string_bytes l.fn.text ++ flat_map (place_line (offsets_of l.watch.target.pattern) l.watch.primitives.triangles.now l.watch.target.region) (take l.i l.places)
