use Rattle.std.proofs.Common.{◌≡◌, ◌∙◌, ◌%◌, ◌∷◌, [], min, ℕ, List, take, length, get_or, bit_and, ap, sym, arith}
use Rattle.std.specs.Int.{bit_at}
use Rattle.std.specs.List.{filter}
use Rattle.std.proofs.lemmas.List.{take_more}
use Rattle.std.proofs.lemmas.List.Elements.{filter-append}
use Rattle.std.proofs.lemmas.Nat.Bits.{bit_at-lt, bit_at-zero, bit_at_and, bit_at_or}
use Rattle.std.proofs.Common.{length-append}
use Rattle.std.proofs.lemmas.Bool.Decides.{nat_tests}
use Rattle.abuf_resolve.specs.Words.{has_sample}
use Rattle.abuf_resolve.proofs.sample_hits.are_apart.Goals as goal

-- A word is kept as often as its bit says.
kept_once : (k w : ℕ) → length (filter (has_sample k) (w ∷ [])) ≡ bit_at (w % 65536) k
kept_once k w = grind (arith, nat_tests, bit_at-lt (w % 65536) k)

pub loop-word-preserved : goal.loop-word-preserved
loop-word-preserved c = λ k l.
    let words = c.args.words.now in
    let i = c.loop-word.word-index in
    let w : ℕ = get_or words i 0 in
    let seen = c.loop-word.seen in
    let mask = c.mask-mask.result in
    let none : bit_and seen mask ≡ 0 = omega (arith, c.if-seen-mask-ne0.false) in
    let apart : min (bit_at seen k) (bit_at mask k) ≡ 0 = sym (bit_at_and seen mask k) ∙ (ap (λ (m : ℕ). bit_at m k) none ∙ bit_at-zero k) in
    let bit : bit_at mask k ≡ bit_at (w % 65536) k = ap (λ (m : ℕ). bit_at m k) c.mask-mask.ensures in
    ap (λ (ws : List ℕ). length (filter (has_sample k) ws)) (take_more words i 0 (omega arith))
    ∙ (ap (λ (ws : List ℕ). length ws) (filter-append (has_sample k) (take i words) (w ∷ []))
    ∙ (length-append (filter (has_sample k) (take i words)) (filter (has_sample k) (w ∷ []))
    ∙ omega (arith, c.loop-word.invariant k l, kept_once k w, bit, apart, bit_at_or seen mask k)))
