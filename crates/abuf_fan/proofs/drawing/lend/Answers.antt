use Rattle.std.proofs.Common.{arith, length}
use Rattle.abuf_fan.proofs.Chunks.{need_small}
use Rattle.abuf_fan.proofs.drawing.lend.Goals as goal

pub overflow_mul-right : goal.overflow_mul-right
overflow_mul-right c = let work = c.args.work.now in let w = c.requires.workers in
    let s = need_small c.args.right (length work.tris.now) c.pixels.result (omega arith) work.few (omega (arith, c.pixels.ensures.region.not_large)) in omega arith
