use Rattle.std.proofs.Common.{refl}
use Rattle.std.proofs.lemmas.Result.{err_from_is_err_and}
use Rattle.abuf_top.specs.Outside.{SourceChange, ShelfChange, source_change, shelf_change}
use Rattle.abuf_top.proofs.Reading.{stopped_by_path, after_path}
use Rattle.abuf_top.proofs.Taking.{takes_none}
use Rattle.abuf_top.proofs.commands.sequence.prepare_images.Goals as goal

pub returns-in_err-shots : goal.returns-in_err-shots
returns-in_err-shots g c =
    let p = err_from_is_err_and c.from_residual.result c.from_residual.ensures.1 in
    let from : SourceChange = source_change g.S.Source.left g.S.Source.faults c.args.scene.now c.args.scene.now in
    let by : ShelfChange = shelf_change g.H.Shelf.tells g.H.Shelf.holds g.H.Shelf.calls g.H.Shelf.faults c.args.shelf.now c.fetch_path.new.shelf in
    let stops = c.in_err-shots.ensures in
    rw (p.1, p.2) (stopped_by_path c.args.job.now c.args.name.now from by c.in_err-shots.field-0.0 (refl, refl) (takes_none _ _) stops.calls stops.told (stops.cause c.args.job.now))

pub returns : goal.returns
returns g c =
    let from : SourceChange = source_change g.S.Source.left g.S.Source.faults c.args.scene.now c.read_images.new.scene in
    let by : ShelfChange = shelf_change g.H.Shelf.tells g.H.Shelf.holds g.H.Shelf.calls g.H.Shelf.faults c.args.shelf.now c.read_images.new.shelf in
    let mid = c.fetch_path.new.shelf in
    let path = c.in_ok-shots.ensures in
    after_path c.args.job.now c.args.name.now from by (g.H.Shelf.tells mid) (g.H.Shelf.holds mid) (g.H.Shelf.calls mid) (g.H.Shelf.faults mid) c.in_ok-shots.shots c.read_images.result
    path.held path.calls path.later path.told c.read_images.ensures
