use Rattle.std.proofs.Common.{◌<◌, ◌*◌, All}
use Rattle.abuf_drawing_rows.proofs.resolving.fragments_of.Given as goal

abbrev pub invariant-loop-n : goal.invariant-loop-n
invariant-loop-n l = All (λ item. item.0 < l.region.w * l.region.h) l.items.items

abbrev pub invariant-loop-place : goal.invariant-loop-place
invariant-loop-place l = All (λ item. item.0 < l.region.w * l.region.h) l.items.items
