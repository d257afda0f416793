use Rattle.std.proofs.Common.{List, subst}
use Rattle.abuf_obj.specs.declared.face.Face.{Face}
use Rattle.abuf_scene.specs.Lookup.{look_up}
use Rattle.abuf_view.specs.Chunks.{IsFaceChunk}
use Rattle.abuf_view.proofs.Together.{all_face_chunks, answered}
use Rattle.abuf_view.proofs.threads.all_faces.Goals as goal

pub returns-then-len-per_chunk : goal.returns-then-len-per_chunk
returns-then-len-per_chunk g c =
    subst (λ (faces : List Face). IsFaceChunk (look_up c.args.palette.now.materials.value) c.args.obj.now c.args.table.now.eye faces c.project_chunk.result) c.faces-faces.ensures c.project_chunk.ensures

-- The workers' chunks, put together, are the chunk of all faces.
pub returns : goal.returns
returns g c =
    let look = look_up c.args.palette.now.materials.value in
    let eye = c.args.table.now.eye in
    answered look c.args.obj.now eye c.args.obj.now.faces _ c.put_together.result (all_face_chunks look c.args.obj.now eye c.args.per_chunk c.args.obj.now.faces c.in_ok-chunks.chunks.items c.in_ok-chunks.ensures) c.put_together.ensures
