use Rattle.std.proofs.Common.{◌∙◌}
use Rattle.abuf_resolve.proofs.Sets.{rest_of_itself, set_fits}
use Rattle.abuf_resolve.proofs.colour_sum.ColourSum.all_with.Goals as goal

pub all-requires-clause-all : goal.all-requires-clause-all
all-requires-clause-all c =
    let t = c.args.self in
    c.with.ensures.left ∙ rest_of_itself t.rest (set_fits t.rest t.samples c.requires.left c.requires.few)
