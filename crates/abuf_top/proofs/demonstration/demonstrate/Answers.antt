use Rattle.std.proofs.Common.{◌≡◌, ◌∙◌, ◌∷◌, [], List, ℕ, Some, IfSome, codes, ap, subst}
use Rattle.abuf_io.specs.Causes.{Rose}
use Rattle.abuf_io.specs.Fetching.{held}
use Rattle.abuf_io.specs.Memory.{steady_pairs}
use Rattle.abuf_scene.specs.Demo.{obj, library}
use Rattle.abuf_top.specs.Demonstration.{demo_shelf}
use Rattle.abuf_top.specs.Verdict.{scene_verdict}
use Rattle.abuf_top.specs.Prepared.{Loads}
use Rattle.abuf_top.proofs.Telling.{told-weaker, still}
use Rattle.abuf_top.proofs.demonstration.demonstrate.Goals as goal

pub returns-clause-told : goal.returns-clause-told
returns-clause-told g c =
    let pairs : steady_pairs c.in-Ok-library_shelf.shelf ≡ (codes "demo.mtl", library) ∷ [] = c.in-Ok-library_shelf.ensures ∙ ap (λ (l : List ℕ). (codes "demo.mtl", l) ∷ []) c.in-Ok.ensures.library in
    told-weaker (scene_verdict (Some demo_shelf) (obj c.args.number)) (Rose 0 0) ⊥ c.read_text.result still
    (subst (λ (ps : List (List ℕ × List ℕ)). IfSome (scene_verdict (Some (held ps)) (obj c.args.number)) (λ line. Loads line (Rose 0 0) c.read_text.result)) pairs
    (subst (λ (scene : List ℕ). IfSome (scene_verdict (Some (held (steady_pairs c.in-Ok-library_shelf.shelf))) scene) (λ line. Loads line (Rose 0 0) c.read_text.result)) c.in-Ok.ensures.obj c.read_text.ensures.told))
