use Rattle.std.proofs.Common.{◌∙◌, ◌∷◌, ◌++◌, ◌/◌, ◌^◌, [], ℕ, List, ap, ap₂, sym, take, arith}
use Rattle.std.proofs.lemmas.List.{length-set}
use Rattle.abuf_scene.specs.Demo.{step, given, coordinate}
use Rattle.abuf_scene.specs.Drawing.{vertex_from, drawn}
use Rattle.abuf_scene.proofs.Putting.{five_behind, point_is, take_more_set}
use Rattle.abuf_scene.proofs.demo.put_vertex.Goals as goal

pub returns-clause-line : goal.returns-clause-line
unfolding vertex_from given
returns-clause-line c =
    let s = c.args.register.now.s in
    let sx = c.draw.ensures.register in
    let sy = c.draw-2.ensures.register ∙ ap step sx in
    let px = (c.requires.number_texts c.draw.result _ (omega arith)).text ∙ ap drawn c.draw.ensures.value in
    let py = (c.requires.number_texts c.draw-2.result _ (omega arith)).text ∙ ap drawn (c.draw-2.ensures.value ∙ ap (λ (r : ℕ). step r / 2 ^ 24) sx) in
    let pz = (c.requires.number_texts c.draw-3.result _ (omega arith)).text ∙ ap drawn (c.draw-3.ensures.value ∙ ap (λ (r : ℕ). step r / 2 ^ 24) sy) in
    let first = take_more_set c.args.at 118 c.args.buf.now (omega arith) in
    let tx = c.put-x.ensures.text ∙ ap₂ (λ (xs ys : List ℕ). xs ++ ys) first px in
    let ty = c.put-y.ensures.text ∙ ap₂ (λ (xs ys : List ℕ). xs ++ ys) tx py in
    let tz = c.put-z.ensures.text ∙ ap₂ (λ (xs ys : List ℕ). xs ++ ys) ty pz in
    take_more_set c.put-z.result 10 c.put-z.new.buf (omega (arith, length-set c.args.buf.now c.args.at 118))
    ∙ ap (λ (xs : List ℕ). xs ++ 10 ∷ []) tz
    ∙ five_behind (take c.args.at c.args.buf.now) (118 ∷ []) _ _ _ (10 ∷ [])
    ∙ ap (λ (xs : List ℕ). take c.args.at c.args.buf.now ++ xs) (sym (point_is (coordinate (given (step s))) (coordinate (given (step (step s)))) (coordinate (given (step (step (step s)))))))
