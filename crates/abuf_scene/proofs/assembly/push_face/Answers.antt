use Rattle.std.proofs.Common.{sym, subst, All}
use Rattle.abuf_obj.specs.Sound.{IsInRange}
use Rattle.abuf_scene.proofs.assembly.push_face.Goals as goal

pub returns-in_ok-push_fan-in-Some-clause-near : goal.returns-in_ok-push_fan-in-Some-clause-near
returns-in_ok-push_fan-in-Some-clause-near c = λ points old. c.in_ok-push_fan-in-Some.ensures.near (subst (All IsInRange) (sym c.as_slice-in-Some.ensures) points) old
