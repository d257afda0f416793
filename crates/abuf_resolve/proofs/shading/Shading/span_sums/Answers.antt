use Rattle.std.proofs.Common.{[], ◌∙◌, arith}
use Rattle.abuf_resolve.proofs.Spans.{places_more}
use Rattle.abuf_resolve.proofs.shading.Shading.span_sums.Goals as goal

pub loop-done-preserved : goal.loop-done-preserved
loop-done-preserved c =
    let before = c.loop-done.invariant in
    record {
      within = omega (arith, before.within, c.min.ensures);
      sums = places_more c.args.self.now c.args.region c.loop-done.reading.reader.frame c.args.closed.now before.reads [] c.args.span.from c.loop-done.done c.min.result c.loop-done.lines.all c.add_lines.new.lines.all
          c.in_ok-add_lines.ensures.sums before.sums;
      none = c.in_ok-add_lines.ensures.none;
      reads = c.add_lines.ensures.reads ∙ before.reads;
    }
