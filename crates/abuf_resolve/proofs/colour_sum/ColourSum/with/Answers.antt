use Rattle.std.proofs.Common.{◌≡◌, ◌∙◌, ◌+◌, ◌-◌, ℕ, List, [], ◌∷◌, slice_index, bit_and, ap, subst, arith}
use Rattle.std.specs.Int.RustNames.{count_ones}
use Rattle.abuf_num.specs.declared.plain.PixelSum.{PixelSum}
use Rattle.abuf_resolve.specs.Sums.{plus_times, IsSmall}
use Rattle.abuf_resolve.proofs.Sets.{counts, count_le, left_below, total_with}
use Rattle.abuf_resolve.proofs.colour_sum.ColourSum.with.Goals as goal

pub sums_with-requires : goal.sums_with-requires
sums_with-requires c =
    let t = c.args.self in
    let all = counts t.rest c.args.set t.samples c.requires.left c.requires.few c.ranges.set.fits in
    let most = count_le t.rest c.args.set t.samples c.requires.left c.requires.few c.ranges.set.fits in
    record { few = omega (arith, all, most, c.requires.few); small = (omega (arith, all, most, c.requires.few, c.requires.small.0), omega (arith, all, most, c.requires.few, c.requires.small.1), omega (arith, all, most, c.requires.few, c.requires.small.2)) }

pub returns-clause-fair : goal.returns-clause-fair
returns-clause-fair c =
    let t = c.args.self in
    let all = counts t.rest c.args.set t.samples c.requires.left c.requires.few c.ranges.set.fits in
    let most = count_le t.rest c.args.set t.samples c.requires.left c.requires.few c.ranges.set.fits in
    let e : t.samples - count_ones t.rest + count_ones (bit_and t.rest c.args.set) ≡ t.samples - count_ones (bit_and t.rest (4294967295 - c.args.set)) = omega (arith, all, most) in
    record {
      few = c.requires.few;
      left = left_below t.rest c.args.set t.samples c.requires.left c.requires.few c.ranges.set.fits;
      small = subst (λ (n : ℕ). IsSmall n c.sums_with.result) e (c.sums_with.ensures.small (t.samples - count_ones t.rest) c.requires.small);
    }

pub returns-clause-holds : goal.returns-clause-holds
returns-clause-holds c = λ colours holds have.
    let t = c.args.self in
    let count : ℕ = count_ones (bit_and t.rest c.args.set) in
    let channel = λ (i : ℕ). total_with t.rest c.args.set t.samples c.requires.left c.requires.few c.ranges.set.fits (λ k. slice_index (colours k) i) (slice_index c.args.colour i)
    (λ k l r s. ap (λ (colour : List ℕ). slice_index colour i) (have k l r s)) in
    c.sums_with.ensures.value
    ∙ (ap (λ (sums : PixelSum). plus_times sums count c.args.colour) holds
    ∙ (λ i. record { channels = channel 0 i ∷ channel 1 i ∷ channel 2 i ∷ [] }))
