use Rattle.std.proofs.Common.{rules, arith, ◌-◌, ◌*◌, length, drop}
use Rattle.std.proofs.lemmas.List.{length-drop}
use Rattle.abuf_fan.proofs.Taken.{take_chunk}
use Rattle.abuf_fan.proofs.chunk.chunk_of.Goals as goal

pub returns-clause-chunk : goal.returns-clause-chunk
returns-clause-chunk c = let l = length-drop (64 * c.args.chunk) c.args.order.now in take_chunk (drop (64 * c.args.chunk) c.args.order.now) (length c.args.order.now - 64 * c.args.chunk) c.min.result (omega arith) (search rules)
