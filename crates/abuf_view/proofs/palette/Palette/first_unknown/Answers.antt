use Rattle.std.proofs.Common.{◌≡◌, ◌∙◌, ◌∷◌, All, List, ℕ, false, true, ap, is_some, length, map, option_map, subst, sym}
use Rattle.std.specs.List.{list_all}
use Rattle.std.proofs.lemmas.List.Elements.{All-tail}
use Rattle.abuf_obj.specs.Sound.{IsFace}
use Rattle.abuf_obj.specs.declared.face.Face.{Face}
use Rattle.abuf_scene.specs.Lookup.{look_up}
use Rattle.abuf_scene.specs.Triangles.{is_unknown, paint_by}
use Rattle.abuf_view.proofs.Known.{next_known, none_unknown, seen_known}
use Rattle.abuf_view.proofs.palette.Palette.first_unknown.Goals as goal

pub returns-then-has_all : goal.returns-then-has_all
returns-then-has_all c =
    let look = look_up c.args.self.now.materials.value in
    let all : list_all is_some (map look c.args.obj.now.names) ≡ true =
    ap (λ (names : List (List ℕ)). list_all is_some (map look names)) (sym c.requires.names) ∙ (sym c.has_all.ensures ∙ c.if-has_all.true) in
    sym (ap (option_map (λ (face : Face). face.line)) (none_unknown look c.args.obj.now.names all (length c.args.obj.now.points) c.args.obj.now.faces c.requires.faces))

pub loop-face-preserved : goal.loop-face-preserved
loop-face-preserved c =
    let obj = c.args.obj.now in
    let look = look_up c.args.self.now.materials.value in
    let left = c.loop-face.left in
    let face = c.in-Some.face in
    let later = c.in-Some.later in
    let is : left ≡ face ∷ later = c.in-Some.ensures.some in
    let P : Face → Type 0 = IsFace (length obj.points) (length obj.names) in
    let known : is_unknown look obj.names face ≡ false =
    seen_known _ _ (c.paint_of.ensures ∙ (λ i. paint_by look (c.requires.names i) (c.face.view_is i).name)) c.if-is_none.ensures in
    record {
      fine = All-tail P face later (subst (All P) is c.loop-face.invariant.fine);
      same = next_known look obj.names face left later is known ∙ c.loop-face.invariant.same;
    }
