use Rattle.std.proofs.Common.{◌+◌, take, arith}
use Rattle.abuf_num.proofs.Notation.{to_end}
use Rattle.abuf_obj.proofs.Leading.{vertex_behind, vertex_alone, slash_bytes, index_bytes}
use Rattle.abuf_obj.proofs.element.element_length.Goals as goal

pub returns-then-text-index-eq47-clause-vertex : goal.returns-then-text-index-eq47-clause-vertex
returns-then-text-index-eq47-clause-vertex c =
    let more = c.leading_texture_and_normal in
    λ above. vertex_behind c.args.text.now _ c.args.index more.result (omega arith) c.if-text-index-eq47.true (to_end (c.args.index + 1) c.args.text.now) c.requires.bytes above more.ensures.unused

pub returns-then-text-index-eq47-clause-bytes : goal.returns-then-text-index-eq47-clause-bytes
returns-then-text-index-eq47-clause-bytes c =
    let more = c.leading_texture_and_normal in
    slash_bytes c.args.text.now _ c.args.index more.result (omega arith) c.if-text-index-eq47.true (to_end (c.args.index + 1) c.args.text.now) c.requires.bytes more.ensures.bytes

pub returns-else-index-text-clause-vertex : goal.returns-else-index-text-clause-vertex
returns-else-index-text-clause-vertex c = λ above. vertex_alone above (take c.args.index c.args.text.now) c.requires.bytes

pub returns-else-index-text-clause-bytes : goal.returns-else-index-text-clause-bytes
returns-else-index-text-clause-bytes c = index_bytes (take c.args.index c.args.text.now) c.requires.bytes
