use Rattle.std.proofs.Common.{◌∙◌, ◌++◌, ◌∷◌, ◌+◌, ◌%◌, ℕ, List, ap, codes, take, arith}
use Rattle.abuf_scene.specs.Demo.{face}
use Rattle.abuf_scene.proofs.Putting.{face_is}
use Rattle.abuf_scene.proofs.demo.put_face.Goals as goal

pub returns-clause-lines : goal.returns-clause-lines
unfolding face
returns-clause-lines c =
    let digit : ℕ = c.args.i % 8 in
    let keyword = c.put-keyword.ensures.text in
    let first = c.put-first.ensures.text ∙ ap (λ (xs : List ℕ). xs ++ ((48 + digit) ∷ codes "\nf -3 -")) keyword in
    c.put.ensures.text ∙ ap (λ (xs : List ℕ). xs ++ codes "2 -1\n") first ∙ face_is (take c.args.at c.args.buf.now) digit (omega arith)
