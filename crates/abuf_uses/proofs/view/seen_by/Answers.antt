use Rattle.std.proofs.Common.{List, ◌≡◌, ◌∷◌, [], ◌∙◌, ap, subst, map, rules}
use Rattle.abuf_obj.specs.declared.scene.Obj.{Obj}
use Rattle.abuf_scene.specs.Triangles.{triangles, unknown, Tells}
use Rattle.abuf_scene.specs.declared.triangles.Triangle.{Triangle}
use Rattle.abuf_view.specs.Primitives.{Primitive, prims}
use Rattle.abuf_uses.specs.Seen.{scene_of}
use Rattle.abuf_uses.proofs.view.seen_by.Goals as goal

pub returns-in_err-read_mtl-clause-fault : goal.returns-in_err-read_mtl-clause-fault
returns-in_err-read_mtl-clause-fault g c =
    let fault = c.in_err-read_mtl.ensures.fault [] c.new-materials.ensures.stands in search rules

pub returns-in_err-flat-clause-fault : goal.returns-in_err-flat-clause-fault
returns-in_err-flat-clause-fault g c =
    let library = c.args.library.now in
    let read = c.in_ok-obj.ensures in
    let same : c.in_ok-obj.obj ≡ scene_of c.args.scene.now = λ i. record { points = read.points i; faces = read.faces i; names = read.names i; libraries = read.libraries i } in
    let stands = c.in_ok-read_mtl.ensures.ok [] c.new-materials.ensures.stands in
    let fault = subst (λ (o : Obj). Tells (unknown (library ∷ []) o) c.in_err-flat.field-0.0) same (c.in_err-flat.ensures.fault (library ∷ []) stands) in search rules

pub returns-in-Ok-clause-tris : goal.returns-in-Ok-clause-tris
returns-in-Ok-clause-tris g c =
    let library = c.args.library.now in
    let read = c.in_ok-obj.ensures in
    let same : c.in_ok-obj.obj ≡ scene_of c.args.scene.now = λ i. record { points = read.points i; faces = read.faces i; names = read.names i; libraries = read.libraries i } in
    let stands = c.in_ok-read_mtl.ensures.ok [] c.new-materials.ensures.stands in
    let all = c.in_ok-flat.ensures.triangles (library ∷ []) stands ∙ ap (triangles (library ∷ [])) same in
    c.in-Ok.ensures.tris ∙ ap (λ (ts : List Triangle). map (λ (q : Primitive). q.triangle) (prims c.args.camera.now ts)) all

pub returns-in-Ok-clause-paints : goal.returns-in-Ok-clause-paints
returns-in-Ok-clause-paints g c =
    let library = c.args.library.now in
    let read = c.in_ok-obj.ensures in
    let same : c.in_ok-obj.obj ≡ scene_of c.args.scene.now = λ i. record { points = read.points i; faces = read.faces i; names = read.names i; libraries = read.libraries i } in
    let stands = c.in_ok-read_mtl.ensures.ok [] c.new-materials.ensures.stands in
    let all = c.in_ok-flat.ensures.triangles (library ∷ []) stands ∙ ap (triangles (library ∷ [])) same in
    c.in-Ok.ensures.paints ∙ ap (λ (ts : List Triangle). map (λ (q : Primitive). q.paint) (prims c.args.camera.now ts)) all
