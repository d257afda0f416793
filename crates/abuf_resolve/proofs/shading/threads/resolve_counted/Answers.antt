use Rattle.std.proofs.Common.{◌≡◌, ◌∙◌, ◌*◌, ap, map, length}
use Rattle.std.proofs.lemmas.Result.{IfOk-weaker}
use Rattle.abuf_resolve.specs.Shading.{sums_of}
use Rattle.abuf_resolve.specs.Lengths.{maximum}
use Rattle.abuf_resolve.proofs.Places.{lengths_all}
use Rattle.abuf_resolve.proofs.shading.threads.resolve_counted.Goals as goal

pub returns-clause-value : goal.returns-clause-value
returns-clause-value g c =
    IfOk-weaker c.shared.result _ (λ all. all.sums ≡ sums_of c.args.shading.now c.args.region c.args.closed.now.lists) (λ all h. h.sums) c.shared.ensures

pub returns-clause-longest : goal.returns-clause-longest
returns-clause-longest g c =
    let r = c.args.region in
    IfOk-weaker c.shared.result _ (λ all. all.longest ≡ maximum (map length c.args.closed.now.lists))
    (λ all h. h.longest ∙ ap maximum (lengths_all c.args.closed.now.lists (r.w * r.h) c.requires.pixels))
    c.shared.ensures
