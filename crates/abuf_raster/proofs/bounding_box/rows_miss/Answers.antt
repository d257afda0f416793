use Rattle.std.proofs.Common.{rules, ◌≡◌, ◌^◌, ◌<◌, ◌≤◌, ◌+◌, ◌*◌, ℕ, ℤ, pos, ◌+ℤ◌, ◌-ℤ◌, ◌*ℤ◌, ◌≤ℤ◌, ◌<ℤ◌, unsigned_abs, max, to_z, of_z, w64, ap, arith, IsTrue}
use Rattle.std.specs.Int.Signed.{le_z, lt_z}
use Rattle.std.proofs.lemmas.Int.{ints}
use Rattle.abuf_raster.specs.Triangle.{Triangle}
use Rattle.abuf_raster.specs.BoundingBox.{IsBefore, IsBehind}
use Rattle.abuf_raster.proofs.Outside.{none_above, none_under}
use Rattle.abuf_raster.proofs.bounding_box.rows_miss.Goals as goal

up_to : (e : ℕ) (z : ℤ) → e ≤ 4096 → unsigned_abs z < 2 ^ 46 → IsTrue (le_z (to_z w64 (of_z w64 (pos 256 *ℤ to_z w64 e))) (to_z w64 (of_z w64 z))) → pos (256 * e) ≤ℤ z
up_to e z he hz h = search rules

from : (s : ℕ) (z : ℤ) → s ≤ 4095 → unsigned_abs z < 2 ^ 46 → IsTrue (lt_z (to_z w64 (of_z w64 z)) (to_z w64 (of_z w64 (pos 256 *ℤ to_z w64 (s + 1))))) → z <ℤ pos (256 * s + 256)
from s z hs hz h = search rules

near : (l x y z : ℤ) → unsigned_abs x < 2 ^ 45 → unsigned_abs y < 2 ^ 45 → unsigned_abs z < 2 ^ 45 → unsigned_abs l ≤ max (unsigned_abs (to_z w64 (of_z w64 x))) (max (unsigned_abs (to_z w64 (of_z w64 y))) (unsigned_abs (to_z w64 (of_z w64 z)))) → unsigned_abs l < 2 ^ 45
near l x y z hx hy hz h = omega (arith, ints)

before_one : (p m k : ℕ) (r l z w : ℤ) → pos (256 * p + 256) ≤ℤ r → r ≡ to_z w64 (of_z w64 l) +ℤ pos 127 -ℤ pos (16 * k) → k ≡ m → unsigned_abs l < 2 ^ 45 → l ≤ℤ to_z w64 (of_z w64 z) → unsigned_abs z < 2 ^ 45 → z ≡ w → IsBefore p (16 * m) w
before_one p m k r l z w h e f b g n v = rw (← v) (omega (arith, ints))

behind_one : (p m k : ℕ) (r l z w : ℤ) → r <ℤ pos (256 * p + 256) → r ≡ to_z w64 (of_z w64 l) +ℤ pos 128 +ℤ pos (16 * k) → k ≡ m → unsigned_abs l < 2 ^ 45 → to_z w64 (of_z w64 z) ≤ℤ l → unsigned_abs z < 2 ^ 45 → z ≡ w → IsBehind p (16 * m) w
behind_one p m k r l z w h e f b g n v = rw (← v) (omega (arith, ints))

pub returns-then-end-top : goal.returns-then-end-top
returns-then-end-top c = λ before x y left right top bottom.
    let n = c.t.invariant in
    let e = c.min_of.ensures in
    let h : pos (256 * y + 256) ≤ℤ c.lowered-top.result =
    let k = up_to (c.y0.result + c.h.result) c.lowered-top.result (omega (arith, c.y0.ensures.value, c.h.ensures.value, c.y0.ensures.region.y_within)) c.lowered-top.ensures.small before in
    omega (arith, ints, k, c.y0.ensures.value, c.h.ensures.value) in
    let one = λ (z w : ℤ). before_one y _ _ c.lowered-top.result c.min_of.result z w h c.lowered-top.ensures.value c.reach-margin.ensures (near c.min_of.result c.t.inside.a.y c.t.inside.b.y c.t.inside.c.y n.a_near.1 n.b_near.1 n.c_near.1 e.bound) in
    none_above c.args.t.now c.args.pattern x y
    (one c.t.inside.a.y c.args.t.now.a.y e.x n.a_near.1 (ap (λ (t : Triangle). t.a.y) c.t.view_is)) (one c.t.inside.b.y c.args.t.now.b.y e.y n.b_near.1 (ap (λ (t : Triangle). t.b.y) c.t.view_is)) (one c.t.inside.c.y c.args.t.now.c.y e.z n.c_near.1 (ap (λ (t : Triangle). t.c.y) c.t.view_is))

pub returns-else-end-top : goal.returns-else-end-top
returns-else-end-top c = λ behind x y left right top bottom.
    let n = c.t.invariant in
    let e = c.max_of.ensures in
    let h : c.raised-bottom.result <ℤ pos (256 * y + 256) =
    let k = from c.y0-else-end-top.result c.raised-bottom.result (omega (arith, c.y0-else-end-top.ensures.value, c.y0.ensures.region.y_within, c.y0.ensures.region.h_some)) c.raised-bottom.ensures.small behind in
    omega (arith, ints, k, c.y0-else-end-top.ensures.value) in
    let one = λ (z w : ℤ). behind_one y _ _ c.raised-bottom.result c.max_of.result z w h c.raised-bottom.ensures.value c.reach-margin.ensures (near c.max_of.result c.t.inside.a.y c.t.inside.b.y c.t.inside.c.y n.a_near.1 n.b_near.1 n.c_near.1 e.bound) in
    none_under c.args.t.now c.args.pattern x y
    (one c.t.inside.a.y c.args.t.now.a.y e.x n.a_near.1 (ap (λ (t : Triangle). t.a.y) c.t.view_is)) (one c.t.inside.b.y c.args.t.now.b.y e.y n.b_near.1 (ap (λ (t : Triangle). t.b.y) c.t.view_is)) (one c.t.inside.c.y c.args.t.now.c.y e.z n.c_near.1 (ap (λ (t : Triangle). t.c.y) c.t.view_is))
