use Rattle.std.proofs.Common.{arith, ◌≡◌, ◌∙◌, lit<, ◌*ℤ◌, ◌^◌, unsigned_abs, w64, to_z, of_z}
use Rattle.std.proofs.lemmas.Int.{to_z-of_z, fits_signed_mul}
use Rattle.abuf_view.proofs.Bounds.{abs-mul}
use Rattle.abuf_view.proofs.eye.times.Goals as goal

pub returns : goal.returns
returns c =
    let e : to_z w64 (of_z w64 (to_z w64 (of_z w64 c.args.entry) *ℤ to_z w64 (of_z w64 c.args.part))) ≡ c.args.entry *ℤ c.args.part =
    (λ i. to_z w64 (of_z w64 (to_z-of_z w64 c.args.entry c.ranges.entry i *ℤ to_z-of_z w64 c.args.part c.ranges.part i)))
    ∙ to_z-of_z w64 (c.args.entry *ℤ c.args.part) (fits_signed_mul w64 c.args.entry c.args.part (2 ^ 22) 2147483647 c.requires.entry c.requires.part (lit< tt)) in
    record { value = e; bound = rw e (abs-mul c.args.entry c.args.part (unsigned_abs c.args.entry) 2147483647 (omega arith) c.requires.part) }
