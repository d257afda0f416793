use Rattle.std.proofs.Common.{◌∙◌, ap, ℕ, ◌==◌}
use Rattle.std.specs.Int.{bit_at}
use Rattle.std.proofs.lemmas.Nat.Bits.{shr_and_one}
use Rattle.abuf_raster.specs.Samples.{offsets_of}
use Rattle.abuf_raster.proofs.Bits.{bit_covers}
use Rattle.abuf_drawing_rows.proofs.resolving.covers.Goals as goal

pub returns : goal.returns
returns c =
    ap (λ (b : ℕ). b == 1) (shr_and_one c.mask_at.result c.args.k)
    ∙ (ap (λ (m : ℕ). bit_at m c.args.k == 1) c.mask_at.ensures
    ∙ bit_covers c.args.t.now (offsets_of c.args.pattern) c.args.x c.args.y c.args.k c.requires.k)
