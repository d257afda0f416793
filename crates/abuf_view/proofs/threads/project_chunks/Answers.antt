use Rattle.std.proofs.Common.{◌≡◌, ◌*◌, ◌∙◌, All, ap, drop, length, subst, sym, take}
use Rattle.std.proofs.lemmas.List.Elements.{All-drop, All-take}
use Rattle.abuf_obj.specs.Sound.{IsFace}
use Rattle.abuf_obj.specs.declared.face.Face.{Face}
use Rattle.abuf_view.specs.Chunks.{AreCut}
use Rattle.abuf_view.specs.declared.chunks.FaceChunk.{FaceChunk}
use Rattle.abuf_view.proofs.threads.project_chunks.Goals as goal

pub map_jobs-requires-after_bounds : goal.map_jobs-requires-after_bounds
map_jobs-requires-after_bounds g c κs within = λ i x below is κs' ref_ptr held rest.
    let p = c.args.per_chunk in
    let cut : AreCut p c.faces.result c.in_ok-chunks.chunks.items = c.in_ok-chunks.ensures in
    let own : x.faces ≡ take p (drop (i * p) c.faces.result) = ap (λ (chunk : FaceChunk). chunk.faces) is ∙ cut.each i x below in
    let P : Face → Type 0 = IsFace (length c.args.obj.now.points) (length c.args.obj.now.names) in
    let all : All P c.faces.result = subst (All P) (sym c.faces.ensures) c.requires.scene.faces in
    (c.requires.points, (c.requires.names, subst (All P) (sym own) (All-take P p (drop (i * p) c.faces.result) (All-drop P (i * p) c.faces.result all))))
