use Rattle.std.proofs.Common.{arith}
use Rattle.abuf_peel.proofs.Standing.{layers_are}
use Rattle.abuf_peel.proofs.laws.layers_law.Goals as goal

pub returns : goal.returns
returns c = layers_are c.args.background c.args.tris.now c.args.paints.now (omega arith) c.args.n c.args.layer.now c.requires.steps
