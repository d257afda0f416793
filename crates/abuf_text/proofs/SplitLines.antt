-- The lines that `bstr` cuts, without their line feeds, are the lines of the text.
use Rattle.std.proofs.Common.{◌≡◌, ◌<◌, ◌≤◌, ◌-◌, ◌∷◌, [], ℕ, zero, suc, Bool, true, false, cond, List, map, length, take, drop, refl, sym, ap, ◌∙◌, arith, nat_lt, ⊎_elim}
use Rattle.std.proofs.Math.ListN.{length-drop, length-take}
use Rattle.std.proofs.lemmas.Bool.Decides.{eqb_tells, nat_tests}
use Rattle.bstr.specs.Text.{line_len, lines_of}
use Rattle.bstr.specs.Records.{trim_record}
use Rattle.bstr.proofs.lemmas.LineLemmas.{line_len-bounds, lines-nil, lines-step}
use Rattle.abuf_text.specs.Lines.{lines, in_front}
use Rattle.abuf_text.specs.Split.{trimmed}

cond-cons : (v : Bool) (b : ℕ) (p q : List ℕ) → cond v (b ∷ p) (b ∷ q) ≡ b ∷ cond v p q
cond-cons true b p q = refl
cond-cons false b p q = refl

-- a byte in front of some bytes is not the last one
trim_record-cons : (b : ℕ) (t : List ℕ) → 0 < length t → trim_record 10 (b ∷ t) ≡ b ∷ trim_record 10 t
trim_record-cons b [] some = absurd (omega arith)
trim_record-cons b (x ∷ xs) some =
    let long : length (b ∷ x ∷ xs) - 1 ≡ suc (length xs) = omega arith in
    let short : length (x ∷ xs) - 1 ≡ length xs = omega arith in
    let one : nat_lt 0 (length (b ∷ x ∷ xs)) ≡ true = grind (arith, nat_tests) in
    let two : nat_lt 0 (length (x ∷ xs)) ≡ true = grind (arith, nat_tests) in
    rw (one, two, long, short) (cond-cons _ b _ _)

-- the first line, and those behind it
lines-first : (bs : List ℕ) → 0 < length bs → lines bs ≡ trim_record 10 (take (line_len bs) bs) ∷ lines (drop (line_len bs) bs)
unfolding lines line_len
lines-first [] some = absurd (omega arith)
lines-first (b ∷ []) some = ⊎_elim (λ feed. rw feed.0 (rw feed.0 refl)) (λ other. rw other.0 (rw other.0 refl)) (eqb_tells b 10)
lines-first (b ∷ c ∷ rest) some =
    let inner = lines-first (c ∷ rest) (omega arith) in
    let bounds = line_len-bounds (c ∷ rest) (omega arith) in
    let front = take (line_len (c ∷ rest)) (c ∷ rest) in
    let longer : 0 < length front = omega (arith, length-take (line_len (c ∷ rest)) (c ∷ rest)) in
    ⊎_elim
    (λ feed. rw feed.0 (rw feed.0 refl))
    (λ other. rw other.0 (ap (in_front b) inner ∙ ap (λ line. line ∷ lines (drop (line_len (c ∷ rest)) (c ∷ rest))) (sym (trim_record-cons b front longer))))
    (eqb_tells b 10)

split_within : (n : ℕ) (bs : List ℕ) → length bs ≤ n → trimmed (lines_of bs) ≡ lines bs
unfolding lines
split_within n [] short = rw lines-nil refl
split_within zero (b ∷ bs) short = absurd (omega arith)
split_within (suc n) (b ∷ bs) short =
    let all = b ∷ bs in
    let bounds = line_len-bounds all (omega arith) in
    let rest = drop (line_len all) all in
    let shorter : length rest ≤ n = omega (arith, length-drop (line_len all) all) in
    ap (map (trim_record 10)) (lines-step all (omega arith))
    ∙ ap (λ (ls : List (List ℕ)). trim_record 10 (take (line_len all) all) ∷ ls) (split_within n rest shorter)
    ∙ sym (lines-first all (omega arith))

pub trimmed-lines_of : (bs : List ℕ) → trimmed (lines_of bs) ≡ lines bs
trimmed-lines_of bs = split_within (length bs) bs (omega arith)
