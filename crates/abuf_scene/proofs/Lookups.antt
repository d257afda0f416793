-- Materials that stand for libraries give each name the paint of its last material.
use Rattle.std.proofs.Common.{◌≡◌, ℕ, List, subst}
use Rattle.abuf_num.specs.declared.plain.Paint.{Paint}
use Rattle.abuf_mtl.specs.Material.{material}
use Rattle.abuf_mtl.specs.StandsFor.{StandsFor}
use Rattle.abuf_obj.specs.declared.scene.Obj.{Obj}
use Rattle.abuf_scene.specs.Triangles.{Look, Tells, unknown_by}
use Rattle.abuf_scene.specs.Lookup.{look_up}
use Rattle.abuf_scene.specs.declared.assembly.SceneFault.{SceneFault}

pub look_up-material : (libraries : List (List ℕ)) (pairs : List (List ℕ × Paint)) → StandsFor libraries pairs → look_up pairs ≡ material libraries
look_up-material libraries pairs stands = λ i name. stands.paints name i

pub tells-by : (look other : Look) (obj : Obj) (fault : SceneFault) → look ≡ other → Tells (unknown_by look obj) fault → Tells (unknown_by other obj) fault
tells-by look other obj fault same tells = subst (λ (l : Look). Tells (unknown_by l obj) fault) same tells
