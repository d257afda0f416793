use Rattle.std.proofs.Common.{ℕ, ◌+◌, ◌*◌, ◌<◌, ◌≤◌, sym, subst, ⊎_elim, arith}
use Rattle.std.proofs.lemmas.Bool.{cases_lt}
use Rattle.std.proofs.lemmas.Grind.{div_ceil_times}
use Rattle.std.proofs.Math.Nat.{mul-le-mul, le_refl}
use Rattle.abuf_share.specs.declared.desk.TheConstants.{MAX_NUMBERS}
use Rattle.abuf_resolve.proofs.shading.threads.span_count.Goals as goal

pub returns-clause-few : goal.returns-clause-few
returns-clause-few c =
    let n : ℕ = c.div_ceil.result in
    let size : ℕ = c.args.size in
    let p : ℕ = c.pixels.result in
    let below : n * size < p + size = subst (λ (k : ℕ). k * size < p + size) (sym c.div_ceil.ensures) (div_ceil_times p size c.requires.some).1 in
    ⊎_elim (λ (h : MAX_NUMBERS < n). absurd (let m : (MAX_NUMBERS + 1) * size ≤ n * size = mul-le-mul h (le_refl size) in omega (arith, m, below, c.requires.few, c.pixels.ensures)))
    (λ (h : n ≤ MAX_NUMBERS). h) (cases_lt MAX_NUMBERS n)
