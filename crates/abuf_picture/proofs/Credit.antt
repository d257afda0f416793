-- The credit of a whole pass.
use Rattle.std.proofs.Common.{ℕ, ◌*◌, ◌^◌, ◌≤◌, mul-le-mul, arith}

-- It is enough for every worker to draw everything.
pub enough : (threads count w h : ℕ) → threads ≤ 64 → count ≤ 2097152 → w * h ≤ 4194304 → threads * (count * (w * h)) ≤ 2 ^ 60
enough threads count w h t c a =
    let inner : count * (w * h) ≤ 2097152 * 4194304 = mul-le-mul c a in
    let all : threads * (count * (w * h)) ≤ 64 * (2097152 * 4194304) = mul-le-mul t inner in
    omega arith
