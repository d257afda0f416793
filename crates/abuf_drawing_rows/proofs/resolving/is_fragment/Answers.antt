use Rattle.std.proofs.Common.{◌≡◌, ◌∙◌, ◌<◌, ◌/◌, ◌%◌, ℕ, true, ap, sym, subst, length, arith, ◌==◌}
use Rattle.std.specs.Int.{bit_at}
use Rattle.std.proofs.lemmas.Bool.{eqb-true}
use Rattle.std.proofs.lemmas.List.{get_or_default}
use Rattle.abuf_raster.specs.Coverage.{covers}
use Rattle.abuf_raster.specs.Samples.{offsets_of}
use Rattle.abuf_raster.specs.Triangle.{Triangle}
use Rattle.abuf_raster.proofs.Bits.{bit_covers}
use Rattle.abuf_resolve.specs.Colour.{triangle_at, origin}
use Rattle.abuf_drawing_rows.proofs.resolving.is_fragment.Goals as goal

pub returns : goal.returns
returns c = λ same.
    let os = offsets_of c.args.pattern in
    let tris = c.args.tris.now in
    let x = c.args.x in
    let y = c.args.y in
    let word = c.args.word in
    let t = c.index-tris-prim.result in
    let known : word / 65536 < length tris = omega arith in
    let is : t ≡ triangle_at tris (word / 65536) = c.index-tris-prim.is ∙ get_or_default tris (word / 65536) t (record { a = origin; b = origin; c = origin; qa = 0; qb = 0; qc = 0 }) known in
    let mask : c.mask_at.result ≡ word % 65536 = eqb-true c.mask_at.result (word % 65536) same in
    record {
      fits = omega arith;
      known = known;
      covered = λ k l has.
          subst (λ (t : Triangle). covers t os x y k ≡ true) is
          (sym (bit_covers t os x y k l) ∙ (ap (λ (m : ℕ). bit_at m k == 1) (sym c.mask_at.ensures ∙ mask) ∙ has));
    }
