use Rattle.std.proofs.Common.{◌∙◌, sym, ap, option_map, Some, None, get_or, arith}
use Rattle.std.proofs.lemmas.List.{get_or_default}
use Rattle.abuf_mtl.specs.Material.{paint_of}
use Rattle.abuf_mtl.specs.StandsFor.{find_paint}
use Rattle.abuf_mtl.proofs.Paints.{lookup-zip, index_within}
use Rattle.abuf_mtl.proofs.materials.Materials.find.Goals as goal

pub returns-in-Some : goal.returns-in-Some
returns-in-Some c =
    let names = c.self.inside.names in
    let paints = c.self.inside.paints.items in
    let name = c.args.name.now in
    let index = sym c.find.ensures ∙ c.in-Some.is in
    let within = index_within name names c.in-Some.index index in
    let found =
    ap Some (c.index.ensures ∙ get_or_default paints c.in-Some.index _ (paint_of None None) (omega (arith, c.self.invariant.0)))
    ∙ sym (ap (option_map (λ k. get_or paints k (paint_of None None))) index)
    ∙ sym (lookup-zip name names paints c.self.invariant.0) ∙ ap (find_paint name) c.self.view_is in
    record { found = found; material = λ libraries stands. found ∙ stands.paints name }

pub returns-in-None : goal.returns-in-None
returns-in-None c =
    let names = c.self.inside.names in
    let paints = c.self.inside.paints.items in
    let name = c.args.name.now in
    let found =
    sym (ap (option_map (λ k. get_or paints k (paint_of None None))) (sym c.find.ensures ∙ c.in-None.is))
    ∙ sym (lookup-zip name names paints c.self.invariant.0) ∙ ap (find_paint name) c.self.view_is in
    record { found = found; material = λ libraries stands. found ∙ stands.paints name }
