use Rattle.std.proofs.Common.{arith}
use Rattle.abuf_drawing_rows.proofs.sequence.listed.Goals as goal

pub returns : goal.returns
returns c = record { few = omega (arith, c.in_ok-scene.ensures.count, c.requires.few); near = c.in_ok-scene.ensures.near c.requires.near }
