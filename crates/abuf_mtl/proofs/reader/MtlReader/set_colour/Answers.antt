use Rattle.std.proofs.Common.{ap, option_map, get_or, []}
use Rattle.abuf_mtl.specs.Reading.{with_colour}
use Rattle.abuf_mtl.proofs.Paints.{paint_at-change}
use Rattle.abuf_mtl.proofs.reader.MtlReader.set_colour.Goals as goal

pub returns-clause-changes : goal.returns-clause-changes
returns-clause-changes c =
    let old = c.args.self.now in
    let now = ap (option_map (λ k. get_or old.names k [])) c.requires in
    record {
      n = get_or old.names c.args.index [];
      before = now;
      after = now;
      changes = paint_at-change old.names old.paints.items c.args.index (with_colour c.args.colour) c.index-paint.result.now c.index-paint.ensures old.beside (old.begun_is c.args.index c.requires).1;
    }
