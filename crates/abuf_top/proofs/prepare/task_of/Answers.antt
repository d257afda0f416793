use Rattle.std.proofs.Common.{◌≡◌, ◌∙◌, Ok, Err, refl, sym, subst}
use Rattle.std.proofs.lemmas.Result.{err_from_is_err_and}
use Rattle.abuf_cli.specs.declared.job.Command.{Command}
use Rattle.abuf_cli.specs.declared.job.Command.TheVariants.{Draw}
use Rattle.abuf_top.specs.Fetches.{command_demand, load_demand}
use Rattle.abuf_top.specs.Outside.{SourceChange, ShelfChange, source_change, shelf_change}
use Rattle.abuf_top.specs.Reads.{PreparesBy}
use Rattle.abuf_top.specs.Verdict.{command_verdict, drawing_verdict, loaded}
use Rattle.abuf_top.proofs.Reading.{made, unmade}
use Rattle.abuf_top.proofs.prepare.task_of.Goals as goal

pub returns-in_ok-loaded-in-Draw : goal.returns-in_ok-loaded-in-Draw
returns-in_ok-loaded-in-Draw g c =
    let from : SourceChange = source_change g.S.Source.left g.S.Source.faults c.args.scene.now c.load.new.scene in
    let by : ShelfChange = shelf_change g.H.Shelf.tells g.H.Shelf.holds g.H.Shelf.calls g.H.Shelf.faults c.args.shelf.now c.load.new.shelf in
    let what = c.in-Draw.what in
    let is : c.args.job.command ≡ Draw what = sym c.command.ensures.value ∙ c.in-Draw.is in
    subst (λ (x : Command). PreparesBy (command_verdict x c.args.job) (command_demand x) (Ok c.args.job) from by c.drawing.result) (sym is)
    (made (drawing_verdict c.args.job what) c.args.job (loaded what) (load_demand what) from by c.in_ok-loaded-in-Draw.loaded c.drawing.result
    c.in_ok-loaded-in-Draw.ensures c.drawing.ensures.told c.drawing.ensures.cause c.drawing.ensures.own)

pub returns-in_err-loaded-in-Draw : goal.returns-in_err-loaded-in-Draw
returns-in_err-loaded-in-Draw g c =
    let p = err_from_is_err_and c.from_residual.result c.from_residual.ensures.1 in
    let from : SourceChange = source_change g.S.Source.left g.S.Source.faults c.args.scene.now c.load.new.scene in
    let by : ShelfChange = shelf_change g.H.Shelf.tells g.H.Shelf.holds g.H.Shelf.calls g.H.Shelf.faults c.args.shelf.now c.load.new.shelf in
    let what = c.in-Draw.what in
    let is : c.args.job.command ≡ Draw what = sym c.command.ensures.value ∙ c.in-Draw.is in
    let stop = c.in_err-loaded-in-Draw.field-0.0 in
    rw (p.1, p.2) (subst (λ (x : Command). PreparesBy (command_verdict x c.args.job) (command_demand x) (Ok c.args.job) from by (Err stop)) (sym is)
    (unmade (drawing_verdict c.args.job what) c.args.job (loaded what) (load_demand what) from by (λ r. refl) stop c.in_err-loaded-in-Draw.ensures))
