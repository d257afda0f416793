use Rattle.std.proofs.Common.{◌∙◌, sym, ap, ap₂, length, subst, ℕ, bit_and}
use Rattle.abuf_raster.specs.Samples.{offsets_of}
use Rattle.abuf_raster.specs.Values.{Numbers, none_below, mask_of_values}
use Rattle.abuf_raster.specs.Triangle.{Triangle}
use Rattle.abuf_raster.specs.Setup.{AreLimits}
use Rattle.abuf_raster.specs.TrioNumbers.{numbers_of}
use Rattle.abuf_raster.proofs.Changes.{mask_inside, mask_outside}
use Rattle.abuf_raster.proofs.Accepted.{three_accept}
use Rattle.abuf_raster.proofs.tile.pixel_mask.Goals as goal

pub returns-then-not-none_below : goal.returns-then-not-none_below
returns-then-not-none_below g c =
    sym (mask_outside c.args.t.now (offsets_of c.args.pattern) (numbers_of g.V.Width.number c.args.at) (numbers_of g.V.Width.number c.args.samples.max) c.requires.samples.high
    (sym (ap none_below c.highest.ensures) ∙ (sym c.none_below.ensures ∙ c.if-not-none_below.true)))

pub returns-then-none_below : goal.returns-then-none_below
returns-then-none_below g c =
    c.full_mask.ensures.value
    ∙ sym (mask_inside c.args.t.now (offsets_of c.args.pattern) (numbers_of g.V.Width.number c.args.at) (numbers_of g.V.Width.number c.args.samples.min) c.requires.samples.low
    (sym (ap none_below c.plus.ensures) ∙ (sym c.none_below-2.ensures ∙ c.if-none_below.true)))

pub accepted-requires : goal.accepted-requires
accepted-requires g c = subst (λ (u : Triangle). AreLimits u.a u.b (offsets_of c.args.pattern) c.args.limits.now.ab) (sym c.t.view_is) c.requires.limits.ab

pub accepted-requires-2 : goal.accepted-requires-2
accepted-requires-2 g c = subst (λ (u : Triangle). AreLimits u.b u.c (offsets_of c.args.pattern) c.args.limits.now.bc) (sym c.t.view_is) c.requires.limits.bc

pub accepted-requires-3 : goal.accepted-requires-3
accepted-requires-3 g c = subst (λ (u : Triangle). AreLimits u.c u.a (offsets_of c.args.pattern) c.args.limits.now.ca) (sym c.t.view_is) c.requires.limits.ca

pub returns : goal.returns
returns g c =
    let u : Triangle = record { a = c.t.inside.a; b = c.t.inside.b; c = c.t.inside.c; qa = c.t.inside.qa; qb = c.t.inside.qb; qc = c.t.inside.qc } in
    let n : Numbers = numbers_of g.V.Width.number c.args.at in
    let os = offsets_of c.args.pattern in
    ap₂ (λ (x y : ℕ). bit_and x y) (ap₂ (λ (x y : ℕ). bit_and x y) c.accepted.ensures c.accepted-2.ensures) c.accepted-3.ensures
    ∙ (three_accept u os n (length os) ∙ ap (λ (v : Triangle). mask_of_values v os n) c.t.view_is)
