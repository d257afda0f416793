use Rattle.std.proofs.Common.{◌≡◌, ◌∙◌, ℕ, List, ap, subst, sym, arith}
use Rattle.abuf_num.specs.declared.plain.Paint.{Paint}
use Rattle.abuf_mtl.specs.Material.{material}
use Rattle.abuf_mtl.specs.StandsFor.{StandsFor}
use Rattle.abuf_scene.specs.Triangles.{Look, triangles, triangles_by, unknown, unknown_by}
use Rattle.abuf_scene.specs.Lookup.{look_up}
use Rattle.abuf_scene.proofs.Lookups.{look_up-material}
use Rattle.abuf_view.proofs.Fans.{triangles_few}
use Rattle.abuf_view.proofs.Known.{all_near}
use Rattle.abuf_view.proofs.flat_scene.FlatScene.new.Goals as goal

-- The paints that are looked up are those of the libraries that the materials stand for.
by_library : (libraries : List (List ℕ)) (mine given : List (List ℕ × Paint)) → mine ≡ given → StandsFor libraries given → look_up mine ≡ material libraries
by_library libraries mine given same stands = look_up-material libraries mine (subst (StandsFor libraries) (sym same) stands)

pub returns-in-Some-clause-fault : goal.returns-in-Some-clause-fault
unfolding unknown
returns-in-Some-clause-fault c = λ libraries stands.
    ap (λ (look : Look). unknown_by look c.args.obj) (sym (by_library libraries c.in_ok-palette.palette.materials.value c.args.materials.now c.in_ok-palette.ensures.materials stands)) ∙ sym c.in-Some.ensures

pub returns-in-None-clause-known : goal.returns-in-None-clause-known
unfolding unknown
returns-in-None-clause-known c = λ libraries stands.
    ap (λ (look : Look). unknown_by look c.args.obj) (sym (by_library libraries c.in_ok-palette.palette.materials.value c.args.materials.now c.in_ok-palette.ensures.materials stands)) ∙ sym c.in-None.ensures

pub returns-in-None-clause-triangles : goal.returns-in-None-clause-triangles
unfolding triangles
returns-in-None-clause-triangles c = λ libraries stands.
    ap (λ (look : Look). triangles_by look c.args.obj) (by_library libraries c.in_ok-palette.palette.materials.value c.args.materials.now c.in_ok-palette.ensures.materials stands)

pub returns-in-None-clause-limits : goal.returns-in-None-clause-limits
returns-in-None-clause-limits c =
    let look = look_up c.in_ok-palette.palette.materials.value in
    let obj = c.args.obj in
    record { few = omega (arith, triangles_few look obj obj.faces, c.requires.scene.few); near = all_near look obj c.requires.scene.near obj.faces }
