use Rattle.std.proofs.Common.{◌<◌, ℕ, ap, sym, ◌∙◌, subst}
use Rattle.abuf_raster.specs.Samples.{offsets_of}
use Rattle.abuf_raster.specs.TrioNumbers.{numbers_of}
use Rattle.abuf_raster.specs.Walk.{full_hits}
use Rattle.abuf_raster.proofs.Changes.{rejected, fully_accepted}
use Rattle.abuf_raster.proofs.tile.tile_by.Goals as goal

pub returns-then-rejects-clause-hits : goal.returns-then-rejects-clause-hits
returns-then-rejects-clause-hits g c =
    let s = c.values_at-start in
    sym (rejected c.args.t.now c.args.prim (offsets_of c.args.pattern) c.args.tile (numbers_of g.V.Width.number s.result) (numbers_of g.V.Width.number c.args.setup.now.samples.max) c.requires.positive c.requires.tile s.ensures.value
    c.requires.setup.samples.high (sym c.rejects.ensures ∙ c.if-rejects.true))

pub returns-then-accepts-clause-hits : goal.returns-then-accepts-clause-hits
returns-then-accepts-clause-hits g c =
    let b = c.args.tile in
    let s = c.values_at-start in
    let full = c.full_mask.ensures in
    c.full_tile.ensures.hits
    ∙ (ap (λ (m : ℕ). full_hits c.args.prim m b.x b.w b.y b.h) full.value
    ∙ fully_accepted c.args.t.now c.args.prim (offsets_of c.args.pattern) b (numbers_of g.V.Width.number s.result) (numbers_of g.V.Width.number c.args.setup.now.samples.min) c.requires.positive c.requires.tile s.ensures.value
    c.requires.setup.samples.low (sym c.accepts.ensures ∙ c.if-accepts.true) (subst (λ (m : ℕ). 0 < m) full.value full.some))
