use Rattle.std.proofs.Common.{arith, ◌<◌, ◌+◌, ◌∙◌, ap, sym, add-zero, ℕ}
use Rattle.std.proofs.lemmas.Nat.{one_shl}
use Rattle.abuf_raster.proofs.Masks.{mask_more, mask_below-lt, offsets_few, twice_fits}
use Rattle.abuf_raster.specs.Samples.{offsets_of}
use Rattle.abuf_raster.specs.Coverage.{covers_sample}
use Rattle.abuf_raster.proofs.for_users.mask_by.Goals as goal
use Rattle.abuf_raster.proofs.for_users.mask_by.Goals.{then-covers_sample, else-covers_sample}

pub overflow_add-mask : goal.overflow_add-mask
overflow_add-mask g c =
    let k = c.loop-k.k in
    let few : k < 16 = omega (arith, offsets_few c.args.pattern) in
    omega (arith, twice_fits k few, one_shl k 16 (omega arith), c.loop-k.invariant, mask_below-lt c.args.t.now (offsets_of c.args.pattern) c.args.x c.args.y k)

pub loop-k-preserved : goal.loop-k-preserved
loop-k-preserved g c =
    let k = c.loop-k.k in
    let few : k < 16 = omega (arith, offsets_few c.args.pattern) in
    let more = mask_more c.args.t.now (offsets_of c.args.pattern) c.args.x c.args.y k c.loop-k.mask c.offset.result c.covers_sample.result c.loop-k.invariant c.offset.ensures.value (c.covers_sample.ensures ∙ ap (covers_sample c.args.t.now) c.sample_position.ensures.value) in
    elim c.if-covers_sample.branch [
      | then-covers_sample w ↦ w.mask-is ∙ (ap (λ (n : ℕ). c.loop-k.mask + n) (one_shl k 16 (omega arith)) ∙ rw w.if-covers_sample.true at more)
      | else-covers_sample w ↦ w.mask-is ∙ (sym (add-zero c.loop-k.mask) ∙ rw w.if-covers_sample.false at more)
    ]
