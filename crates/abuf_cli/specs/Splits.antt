-- Texts cut at a byte.
use Rattle.std.specs.Prelude.{◌==◌, ◌+◌, ℕ, List, take, drop, position, Option, option_map, option_and_then}

-- The parts before and after the first such byte; none where there is no such byte.
abbrev pub split_once : ℕ → List ℕ → Option (List ℕ × List ℕ)
split_once byte text = option_map (λ k. (take k text, drop (k + 1) text)) (position (λ b. b == byte) text)

-- The three texts between two commas; what stands after the second comma is the third.
abbrev pub three_texts : List ℕ → Option (List ℕ × List ℕ × List ℕ)
three_texts text = option_and_then (λ p. option_map (λ q. (p.0, q.0, q.1)) (split_once 44 p.1)) (split_once 44 text)

-- The four texts between three commas.
abbrev pub four_texts : List ℕ → Option (List ℕ × List ℕ × List ℕ × List ℕ)
four_texts text = option_and_then (λ p. option_map (λ q. (p.0, q.0, q.1, q.2)) (three_texts p.1)) (split_once 44 text)
