use Rattle.std.proofs.Common.{◌≡◌, IfSome, option_map, subst}
use Rattle.abuf_io.specs.Causes.{Rose}
use Rattle.abuf_obj.specs.declared.scene.Obj.{Obj}
use Rattle.abuf_top.specs.Libraries.{told_by}
use Rattle.abuf_top.specs.Prepared.{Loads}
use Rattle.abuf_top.specs.Verdict.{library_verdict, shelf_for, scene_of}
use Rattle.abuf_top.proofs.Telling.{furnish_told, fetches_told}
use Rattle.abuf_top.proofs.load.read_bytes.Goals as goal

pub returns-clause-told : goal.returns-clause-told
returns-clause-told g c =
    let obj = c.in_ok-obj.obj in
    let from = c.in_ok-obj.ensures in
    let tells = g.H.Shelf.tells c.args.shelf.now in
    let held = g.H.Shelf.holds c.args.shelf.now in
    let rose = Rose (g.H.Shelf.faults c.args.shelf.now) (g.H.Shelf.faults c.furnish.new.shelf) in
    let same : obj ≡ scene_of c.args.bytes = λ i. record { points = from.points i; faces = from.faces i; names = from.names i; libraries = from.libraries i } in
    let told = furnish_told obj tells held rose c.furnish.result c.furnish.ensures.told c.furnish.ensures.none in
    rw from.sound (subst (λ (o : Obj). IfSome (option_map (library_verdict o) (shelf_for o.libraries (told_by tells held))) (λ line. Loads line rose c.furnish.result)) same told)

pub returns-clause-calls : goal.returns-clause-calls
returns-clause-calls g c =
    let from = c.in_ok-obj.ensures in
    rw (from.sound, ← from.libraries) (fetches_told c.in_ok-obj.obj.libraries (g.H.Shelf.tells c.args.shelf.now) (g.H.Shelf.holds c.args.shelf.now) _ _ _ _ c.furnish.ensures.calls c.furnish.ensures.still)
