use Rattle.std.proofs.Common.{arith, refl, sym, Bool, true, false, neg_ℤ, ◌≡◌, ◌<◌, ◌≤◌, ◌+◌, ◌-◌, ◌^◌, ◌∙◌, ap, ℕ, ℤ, pos, ◌+ℤ◌, List, length, get_or, to_z, of_z, w64, not}
use Rattle.std.specs.Prelude.{int_lt}
use Rattle.abuf_raster.specs.declared.point.Point.{Point}
use Rattle.abuf_raster.specs.Samples.{offsets_of}
use Rattle.abuf_raster.specs.Setup.{AreLimitsFrom}
use Rattle.abuf_raster.specs.Values.{sample_change}
use Rattle.std.proofs.lemmas.Int.{ints}
use Rattle.abuf_raster.proofs.Bounds.{back64}
use Rattle.abuf_raster.proofs.Masks.{offsets_few, twice_fits, if_lt}
use Rattle.abuf_raster.proofs.Accepted.{accepted-lt, accepted_more}
use Rattle.abuf_raster.proofs.tile.more_samples.Goals as goal

-- A number is below 0 after a change exactly where it is below what takes the change back.
below_limit : (n c : ℤ) → int_lt n (neg_ℤ c) ≡ int_lt (n +ℤ c) (pos 0)
below_limit n c = go (int_lt n (neg_ℤ c)) (int_lt (n +ℤ c) (pos 0)) refl refl where
  go : (u v : Bool) → u ≡ int_lt n (neg_ℤ c) → v ≡ int_lt (n +ℤ c) (pos 0) → int_lt n (neg_ℤ c) ≡ int_lt (n +ℤ c) (pos 0)
  go true true e f = sym e ∙ f
  go false false e f = sym e ∙ f
  go true false e f = absurd (omega (arith, ints))
  go false true e f = absurd (omega (arith, ints))

-- A limit, as it is read from the list.
limit_is : (a b : Point) (os : List (ℤ × ℤ)) (from k : ℕ) (limits : List ℤ) → AreLimitsFrom a b os from limits → from ≤ k → k < from + 8 → k < length os
    → to_z w64 (of_z w64 (get_or limits (k - from) (pos 0))) ≡ neg_ℤ (sample_change a b os k)
limit_is a b os from k limits are l m h =
    let z : from + (k - from) ≡ k = omega arith in
    let e = are.each (k - from) (omega arith) (omega arith) in
    let f = are.small (k - from) (omega arith) (omega arith) in
    ap (λ (x : ℤ). to_z w64 (of_z w64 x)) e ∙ (back64 (neg_ℤ (sample_change a b os (from + (k - from)))) (omega (arith, f)) ∙ ap (λ (j : ℕ). neg_ℤ (sample_change a b os j)) z)

pub overflow_add-mask : goal.overflow_add-mask
overflow_add-mask g c =
    let k = c.loop-k.k in
    let few : k < 16 = omega (arith, offsets_few c.args.pattern) in
    let small = accepted-lt c.args.edge.a c.args.edge.b (offsets_of c.args.pattern) (g.V.Width.number c.args.edge.value) k in
    let b : c.bit-mask.result < 2 ^ k + 1 = rw c.bit-mask.ensures (if_lt (not c.is_below_limit.result) (2 ^ k) (2 ^ k + 1) (omega arith)) in
    omega (arith, twice_fits k few, c.loop-k.invariant, small, b)

pub loop-k-preserved : goal.loop-k-preserved
loop-k-preserved g c =
    let k = c.loop-k.k in
    let e = c.args.edge in
    let os = offsets_of c.args.pattern in
    let n : ℤ = g.V.Width.number e.value in
    let v : not c.is_below_limit.result ≡ not (int_lt (n +ℤ sample_change e.a e.b os k) (pos 0)) =
    ap not (c.is_below_limit.ensures ∙ (ap (λ (z : ℤ). int_lt n z) (limit_is e.a e.b os c.args.from k c.args.limits.now c.requires.limits (omega arith) (omega arith) (omega arith)) ∙ below_limit n (sample_change e.a e.b os k))) in
    ap (λ (m : ℕ). c.loop-k.mask + m) c.bit-mask.ensures ∙ accepted_more e.a e.b os n k c.loop-k.mask (not c.is_below_limit.result) c.loop-k.invariant v
