-- What comes after a header.
use Rattle.std.proofs.Common.{◌≤◌, ◌≡◌, ℕ, ◌+◌, List, take, drop, length, ◌-◌, ap, ◌∙◌, arith}
use Rattle.std.proofs.lemmas.List.{take_all, length-drop}

-- what comes after a front of known length is the end of that length
pub after_front : (bytes : List ℕ) (front rest : ℕ) → length bytes ≡ front + rest → take (length bytes - (length bytes - rest)) (drop (length bytes - rest) bytes) ≡ drop front bytes
after_front bytes front rest size =
    let start : length bytes - rest ≡ front = omega (arith, size) in
    let all : length (drop front bytes) ≤ length bytes - front = omega (arith, length-drop front bytes) in
    ap (λ (k : ℕ). take (length bytes - k) (drop k bytes)) start ∙ take_all (length bytes - front) (drop front bytes) all
