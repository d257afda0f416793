use Rattle.std.proofs.Common.{◌∙◌, Result, map, ap, refl, sym, subst}
use Rattle.std.proofs.KnownBytes.{Keeps-refl}
use Rattle.std.specs.String.{string_bytes}
use Rattle.abuf_io.specs.Sinks.{sink_change}
use Rattle.abuf_top.specs.Ending.{Concludes}
use Rattle.abuf_top.specs.declared.stop.Stop.{Stop}
use Rattle.abuf_top.proofs.Starting.{ran_out, run_of_same}
use Rattle.abuf_top.proofs.Taking.{takes_none}
use Rattle.abuf_top.proofs.process.start.Goals as goal

pub returns-in-Ok : goal.returns-in-Ok
returns-in-Ok g c = record {
  ran = c.run.result;
  status = c.from.ensures;
  run = λ words are.
      run_of_same words _ _ c.run.result (c.in-Ok.ensures words are ∙ ap (map string_bytes) (sym c.as_slice.ensures.value)) c.run.ensures;
}

pub returns-in-Err : goal.returns-in-Err
returns-in-Err g c =
    let ended = c.without_frame in
    let ran = c.conclude in
    let concludes = subst (λ (r : Result (Unit {0}) Stop). Concludes r ended.result.closed ran.result (sink_change g.E.Sink.taken g.E.Sink.faults c.args.err.now ran.new.err)) ended.ensures.result ran.ensures in
    record {
      ran = ran.result;
      status = c.from-in-Err.ensures;
      run = λ words are. ran_out words _ ended.result.closed ran.result (refl, refl) (takes_none _ (g.S.Source.left c.args.scene.now)) refl refl
          (Keeps-refl (g.O.Sink.taken c.args.out.now)) ended.ensures.closed concludes;
    }
