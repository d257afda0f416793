use Rattle.std.proofs.Common.{Some, refl, sym, subst, arith}
use Rattle.abuf_scene.specs.Demo.{obj}
use Rattle.abuf_cli.specs.declared.job.What.{What}
use Rattle.abuf_top.specs.Demonstration.{demo_shelf}
use Rattle.abuf_top.specs.Fetches.{load_demand}
use Rattle.abuf_top.specs.Outside.{SourceChange, ShelfChange, source_change, shelf_change, ReadFailed}
use Rattle.abuf_top.specs.Reads.{LoadsBy}
use Rattle.abuf_top.specs.Verdict.{loaded, scene_verdict}
use Rattle.abuf_top.proofs.Taking.{takes_none}
use Rattle.abuf_top.proofs.Telling.{told-weaker, cause-weaker}
use Rattle.abuf_top.proofs.load.load.Goals as goal

pub returns-in-Demo : goal.returns-in-Demo
returns-in-Demo g c =
    let from : SourceChange = source_change g.S.Source.left g.S.Source.faults c.args.scene.now c.args.scene.now in
    let by : ShelfChange = shelf_change g.H.Shelf.tells g.H.Shelf.holds g.H.Shelf.calls g.H.Shelf.faults c.args.shelf.now c.args.shelf.now in
    subst (λ (w : What). LoadsBy (loaded w) (load_demand w) from by c.demonstrate.result) (sym c.in-Demo.is) (record {
      as_told = told-weaker (scene_verdict (Some demo_shelf) (obj c.in-Demo.number)) ⊥ (ReadFailed from by) c.demonstrate.result (λ e. absurd e) c.demonstrate.ensures.told;
      cause = cause-weaker ⊥ (ReadFailed from by) c.demonstrate.result (λ e. absurd e) c.demonstrate.ensures.cause;
      scene = c.demonstrate.ensures.scene;
      calls = record { source = λ _. (refl, refl); taken = takes_none _ _; calls = record { most = omega arith; none = λ _. (refl, refl) }; most = omega arith };
    })
