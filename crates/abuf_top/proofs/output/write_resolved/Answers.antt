use Rattle.std.proofs.Common.{ap}
use Rattle.abuf_io.specs.Sinks.{sink_change}
use Rattle.abuf_top.proofs.Listing.{wrote-all, wrote-part, wrote-none}
use Rattle.abuf_top.proofs.output.write_resolved.Goals.{in-Ok, in-Ok-write_all, in-Err-write_all, in-Err}
use Rattle.abuf_top.proofs.output.write_resolved.Goals as goal

pub returns-clause-listed : goal.returns-clause-listed
returns-clause-listed g c =
    let way = g.W.Resolve.gives c.args.way.now in
    let d = c.args.drawing.now in
    let taken = g.O.Sink.taken in
    let faults = g.O.Sink.faults in
    let made = c.output_of-result in
    elim c.match-result.branch [
      | in-Ok w ↦ elim w.match-write_all.branch [
        | in-Ok-write_all v ↦ wrote-all way d (taken c.args.out.now) (taken c.match-result.out) (taken w.write_all.new.sink) (faults c.args.out.now) (faults c.match-result.out)
            w.in-Ok.bytes w.as_slice.result.now made.result.result made.result.closed c.match-result.result w.match-write_all.result
            w.in-Ok.is made.ensures.listed w.as_slice.ensures (ap taken w.out-is) v.in-Ok-write_all.ensures.whole w.result-is v.result-is
        | in-Err-write_all v ↦ wrote-part way d (taken c.args.out.now) (taken c.match-result.out) (taken w.write_all.new.sink) (faults c.args.out.now) (faults c.match-result.out)
            w.in-Ok.bytes w.as_slice.result.now made.result.result made.result.closed c.match-result.result w.match-write_all.result
            w.in-Ok.is made.ensures.listed w.as_slice.ensures (ap taken w.out-is) v.in-Err-write_all.ensures.part w.result-is v.result-is
      ]
      | in-Err w ↦ wrote-none way d (sink_change taken faults c.args.out.now c.match-result.out) made.result.result made.result.closed w.in-Err.stop c.match-result.result
          w.in-Err.is made.ensures.produced w.result-is
    ]
