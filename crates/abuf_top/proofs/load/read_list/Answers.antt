use Rattle.std.proofs.Common.{◌≡◌, ℕ, List, None, IfErr, IfOk, OnOk, subst}
use Rattle.abuf_obj.specs.Faults.{TellsFirst}
use Rattle.abuf_obj.specs.Scene.{points, faces, names, libraries, obj_fault}
use Rattle.abuf_top.proofs.load.read_list.Goals as goal

pub returns-clause-fault : goal.returns-clause-fault
returns-clause-fault g c = subst (λ (b : List ℕ). IfErr c.read_obj_on_threads.result (TellsFirst (obj_fault b))) c.as_slice.ensures c.read_obj_on_threads.ensures.fault

pub returns-clause-sound : goal.returns-clause-sound
returns-clause-sound g c = subst (λ (b : List ℕ). OnOk c.read_obj_on_threads.result (obj_fault b ≡ None)) c.as_slice.ensures c.read_obj_on_threads.ensures.sound

pub returns-clause-points : goal.returns-clause-points
returns-clause-points g c = subst (λ (b : List ℕ). IfOk c.read_obj_on_threads.result (λ obj. obj.points ≡ points b)) c.as_slice.ensures c.read_obj_on_threads.ensures.points

pub returns-clause-faces : goal.returns-clause-faces
returns-clause-faces g c = subst (λ (b : List ℕ). IfOk c.read_obj_on_threads.result (λ obj. obj.faces ≡ faces b)) c.as_slice.ensures c.read_obj_on_threads.ensures.faces

pub returns-clause-names : goal.returns-clause-names
returns-clause-names g c = subst (λ (b : List ℕ). IfOk c.read_obj_on_threads.result (λ obj. obj.names ≡ names b)) c.as_slice.ensures c.read_obj_on_threads.ensures.names

pub returns-clause-libraries : goal.returns-clause-libraries
returns-clause-libraries g c = subst (λ (b : List ℕ). IfOk c.read_obj_on_threads.result (λ obj. obj.libraries ≡ libraries b)) c.as_slice.ensures c.read_obj_on_threads.ensures.libraries
