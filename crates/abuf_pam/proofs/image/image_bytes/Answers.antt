use Rattle.std.proofs.Common.{◌≡◌, ◌∙◌, ◌*◌, ℕ, List, length, ap, rules}
use Rattle.abuf_pam.specs.Image.{image}
use Rattle.abuf_pam.proofs.Sizes.{image_length}
use Rattle.abuf_pam.proofs.image.image_bytes.Goals as goal

pub returns-clause-size : goal.returns-clause-size
unfolding image
returns-clause-size c =
    let whole : c.from_vec.result ≡ image c.args.width c.args.height c.args.maxval c.args.samples c.args.sums.now = search rules in
    ap (λ (bytes : List ℕ). length bytes) whole
    ∙ image_length c.args.width c.args.height c.args.maxval c.args.samples (c.args.width * c.args.height) c.args.sums.now c.requires.pixels
