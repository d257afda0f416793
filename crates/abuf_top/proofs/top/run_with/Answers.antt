use Rattle.std.proofs.Common.{Result, IfErr, sym, subst}
use Rattle.std.proofs.KnownBytes.{Keeps-refl}
use Rattle.abuf_top.specs.Ending.{Ends, Concludes}
use Rattle.abuf_io.specs.Sinks.{sink_change}
use Rattle.abuf_top.specs.Stopped.{IsOfDrawing}
use Rattle.abuf_top.specs.Verdict.{pools_verdict}
use Rattle.abuf_top.specs.declared.stop.Stop.{Stop}
use Rattle.abuf_top.proofs.Running.{run_drew, run_wrote, run_stopped}
use Rattle.abuf_top.proofs.top.run_with.Goals as goal

pub returns-in-Ok-Draw : goal.returns-in-Ok-Draw
returns-in-Ok-Draw g c =
    let drew = c.write_output-outcome in
    run_drew _ _ _ c.in-Ok-Draw.drawing c.in-Ok-Draw.field-0-is drew.result.result drew.result.closed c.conclude.result c.in-Ok-Draw.ensures
    drew.ensures.ends drew.ensures.last drew.ensures.closed drew.ensures.handed drew.ensures.stops c.conclude.ensures

pub returns-in-Ok-Sequence : goal.returns-in-Ok-Sequence
returns-in-Ok-Sequence g c =
    let ended = c.without_frame in
    let ends = subst (λ (r : Result (Unit {0}) Stop). Ends (pools_verdict c.in-Ok-Sequence.images) ⊥ (sink_change g.O.Sink.taken g.O.Sink.faults c.args.out.now c.write_images-result.new.out) r)
    (sym ended.ensures.result) c.write_images-result.ensures.ends in
    let stops = subst (λ (r : Result (Unit {0}) Stop). IfErr r IsOfDrawing) (sym ended.ensures.result) c.write_images-result.ensures.stops in
    run_wrote _ _ _ c.in-Ok-Sequence.images c.in-Ok-Sequence.field-0-is ended.result.result ended.result.closed c.conclude-in-Ok-Sequence.result c.in-Ok-Sequence.ensures
    ends stops ended.ensures.closed c.conclude-in-Ok-Sequence.ensures

pub returns-in-Err : goal.returns-in-Err
returns-in-Err g c =
    let ended = c.without_frame-in-Err in
    let ran = c.conclude-in-Err in
    let concludes = subst (λ (r : Result (Unit {0}) Stop). Concludes r ended.result.closed ran.result (sink_change g.E.Sink.taken g.E.Sink.faults c.args.err.now ran.new.err)) ended.ensures.result ran.ensures in
    run_stopped _ _ c.in-Err.stop ended.result.closed ran.result c.in-Err.ensures (Keeps-refl (g.O.Sink.taken c.args.out.now)) ended.ensures.closed concludes
