use Rattle.std.proofs.Common.{◌∙◌, length, ap, sym, None, arith}
use Rattle.std.proofs.lemmas.Result.{err_from_is_err_and}
use Rattle.abuf_text.specs.Lines.{lines}
use Rattle.abuf_obj.specs.Scene.{points, faces, names, libraries, obj_fault, or_astray}
use Rattle.abuf_obj.proofs.Late.{first_early, first_late, found_of_all, faces_of_all}
use Rattle.abuf_obj.proofs.scene.read_flat.Goals as goal

pub returns-in_err-reader-clause-fault : goal.returns-in_err-reader-clause-fault
unfolding obj_fault
returns-in_err-reader-clause-fault c =
    let p = err_from_is_err_and c.from_residual.result c.from_residual.ensures.1 in
    rw (p.1, p.2) (first_early (lines c.args.bytes.now) _ c.in_err-reader.ensures.fault)

pub returns-in-Some-clause-fault : goal.returns-in-Some-clause-fault
unfolding obj_fault
returns-in-Some-clause-fault c =
    let all = lines c.args.bytes.now in
    let r = c.in_ok-reader.reader in
    let read = c.in_ok-reader.ensures in
    let o = c.finish-obj.result in
    let made = c.finish-obj.ensures in
    first_late all c.first_astray.result read.sound
    (found_of_all all o.points o.faces (omega (arith, r.few_points, ap length made.points)) (made.points ∙ read.points) (made.faces ∙ read.faces) c.first_astray.result c.first_astray.ensures)
    ∙ ap (or_astray None) c.in-Some.is

pub returns-in-None-clause-sound : goal.returns-in-None-clause-sound
unfolding obj_fault
returns-in-None-clause-sound c =
    let all = lines c.args.bytes.now in
    let r = c.in_ok-reader.reader in
    let read = c.in_ok-reader.ensures in
    let o = c.finish-obj.result in
    let made = c.finish-obj.ensures in
    first_late all c.first_astray.result read.sound
    (found_of_all all o.points o.faces (omega (arith, r.few_points, ap length made.points)) (made.points ∙ read.points) (made.faces ∙ read.faces) c.first_astray.result c.first_astray.ensures)
    ∙ ap (or_astray None) c.in-None.is

pub returns-in-None-clause-points : goal.returns-in-None-clause-points
unfolding points
returns-in-None-clause-points c = c.finish-obj.ensures.points ∙ c.in_ok-reader.ensures.points

pub returns-in-None-clause-faces : goal.returns-in-None-clause-faces
unfolding faces
returns-in-None-clause-faces c =
    let all = lines c.args.bytes.now in
    let r = c.in_ok-reader.reader in
    let read = c.in_ok-reader.ensures in
    let o = c.finish-obj.result in
    let made = c.finish-obj.ensures in
    faces_of_all all o.points o.faces (omega (arith, r.few_points, ap length made.points)) (made.points ∙ read.points) (made.faces ∙ read.faces) (sym c.first_astray.ensures ∙ c.in-None.is)

pub returns-in-None-clause-names : goal.returns-in-None-clause-names
unfolding names
returns-in-None-clause-names c = c.finish-obj.ensures.names ∙ c.in_ok-reader.ensures.names

pub returns-in-None-clause-libraries : goal.returns-in-None-clause-libraries
unfolding libraries
returns-in-None-clause-libraries c = c.finish-obj.ensures.libraries ∙ c.in_ok-reader.ensures.libraries

pub returns-in-None-clause-scene : goal.returns-in-None-clause-scene
returns-in-None-clause-scene c = c.finish-obj.ensures.scene (sym c.first_astray.ensures ∙ c.in-None.is)
