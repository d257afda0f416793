use Rattle.std.proofs.Common.{◌≡◌, ◌∙◌, ap, subst, None}
use Rattle.std.proofs.lemmas.Result.{err_from_is_err_and}
use Rattle.abuf_mtl.specs.Material.{material}
use Rattle.abuf_scene.specs.Triangles.{Look, triangles, unknown, triangles_by, unknown_by}
use Rattle.abuf_scene.specs.Lookup.{look_up}
use Rattle.abuf_scene.proofs.Lookups.{look_up-material, tells-by}
use Rattle.abuf_scene.proofs.assembly.assemble.Goals as goal

pub returns-in_err-list-clause-fault : goal.returns-in_err-list-clause-fault
unfolding unknown
returns-in_err-list-clause-fault c = λ libraries stands.
    let p = err_from_is_err_and c.from_residual.result c.from_residual.ensures.1 in
    rw (p.1, p.2) (tells-by (look_up c.args.materials.now) (material libraries) c.args.obj.now _ (look_up-material libraries c.args.materials.now stands) c.in_err-list.ensures.fault)

pub returns-clause-known : goal.returns-clause-known
unfolding unknown
returns-clause-known c = λ libraries stands.
    subst (λ (look : Look). unknown_by look c.args.obj.now ≡ None) (look_up-material libraries c.args.materials.now stands) c.in_ok-list.ensures.known

pub returns-clause-triangles : goal.returns-clause-triangles
unfolding triangles
returns-clause-triangles c = λ libraries stands.
    c.in_ok-list.ensures.triangles ∙ ap (λ (look : Look). triangles_by look c.args.obj.now) (look_up-material libraries c.args.materials.now stands)
