use Rattle.std.proofs.Common.{◌+◌, take, arith}
use Rattle.abuf_num.proofs.Notation.{to_end}
use Rattle.abuf_obj.proofs.Leading.{texture_alone, texture_and_normal, slash_bytes, index_bytes}
use Rattle.abuf_obj.proofs.element.leading_texture_and_normal.Goals as goal

pub returns-then-text-texture-eq47-clause-unused : goal.returns-then-text-texture-eq47-clause-unused
returns-then-text-texture-eq47-clause-unused c =
    let a = c.leading_unused-texture in
    texture_and_normal c.args.text.now _ a.result c.leading_unused.result (omega arith) c.if-text-texture-eq47.true (to_end (a.result + 1) c.args.text.now) a.ensures.bytes a.ensures.unused c.leading_unused.ensures.unused

pub returns-then-text-texture-eq47-clause-bytes : goal.returns-then-text-texture-eq47-clause-bytes
returns-then-text-texture-eq47-clause-bytes c =
    let a = c.leading_unused-texture in
    slash_bytes c.args.text.now _ a.result c.leading_unused.result (omega arith) c.if-text-texture-eq47.true (to_end (a.result + 1) c.args.text.now) a.ensures.bytes (index_bytes (take c.leading_unused.result _) c.leading_unused.ensures.bytes)

pub returns-else-texture-text-clause-unused : goal.returns-else-texture-text-clause-unused
returns-else-texture-text-clause-unused c = texture_alone (take c.leading_unused-texture.result c.args.text.now) c.leading_unused-texture.ensures.bytes c.leading_unused-texture.ensures.unused

pub returns-else-texture-text-clause-bytes : goal.returns-else-texture-text-clause-bytes
returns-else-texture-text-clause-bytes c = index_bytes (take c.leading_unused-texture.result c.args.text.now) c.leading_unused-texture.ensures.bytes
