use Rattle.std.proofs.Common.{arith}
use Rattle.abuf_scene.proofs.Putting.{put_is}
use Rattle.abuf_scene.proofs.short_texts.put.Goals as goal

pub returns-clause-text : goal.returns-clause-text
returns-clause-text c = put_is c.args.at c.args.short_text.length c.args.buf.now c.args.short_text.bytes c.requires.room (omega arith) c.requires.short
