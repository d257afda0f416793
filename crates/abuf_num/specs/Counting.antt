-- Counts over lists.
use Rattle.std.specs.Prelude.{ℕ, ◌+◌, if◌then◌else◌, ◌==◌, nat_lt, List, [], ◌∷◌}

-- how often n stands in the list
abbrev pub times : ℕ → List ℕ → ℕ
times n [] = 0
times n (x ∷ xs) = (if x == n then 1 else 0) + times n xs

-- 1 where n is below the count, and else 0: how often n stands in 0, 1, .. up to the count
abbrev pub below : ℕ → ℕ → ℕ
below n count = if nat_lt n count then 1 else 0
