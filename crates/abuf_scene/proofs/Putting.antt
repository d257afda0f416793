-- Texts of numbers that are written into a buffer.
use Rattle.std.proofs.Common.{◌≡◌, ◌∙◌, ◌+◌, ◌≤◌, ◌<◌, ◌++◌, ◌∷◌, [], ℕ, suc, ℤ, pos, negsuc, unsigned_abs, List, ap, sym, subst, take, drop, length, get_or, set, arith, length-append, append_assoc, codes, decimal, ⊎_elim}
use Rattle.std.proofs.Math.Seq.{take-append-add, take-length, take-suc-set, get_or-append_seam}
use Rattle.std.proofs.Math.ListN.{get_or-append}
use Rattle.std.proofs.lemmas.Fmt.{decimal_digit, length-decimal-le}
use Rattle.std.proofs.lemmas.Bool.{cases_lt}
use Rattle.std.proofs.lemmas.List.{length-take-le, take-append-le, take-append-drop}
use Rattle.std.proofs.lemmas.Simd.{take_more_put_chunk}
use lib.Lanes.{put_chunk, chunk}
use Rattle.abuf_scene.specs.Demo.{coordinate}
use Rattle.abuf_scene.specs.Drawing.{drawn, IsShortText, AreDrawn}
use Rattle.abuf_scene.specs.declared.short_texts.ShortText.{ShortText}

-- the first bytes of eight that were written stand behind what stood before them
pub put_is : (at n : ℕ) (buf bytes : List ℕ) → at + 8 ≤ length buf → length bytes ≡ 8 → n ≤ 8 → take (at + n) (put_chunk at buf (chunk 0 8 bytes)) ≡ take at buf ++ take n bytes
put_is at n buf bytes room size short =
    let eight : chunk 0 8 bytes ≡ bytes = ap (λ (k : ℕ). take k bytes) (sym size) ∙ take-length bytes in
    let new = put_chunk at buf bytes in
    let all : take (at + 8) new ≡ take at buf ++ bytes = take_more_put_chunk at buf bytes (at + 8) (omega arith) room in
    let first : length (take at buf) ≡ at = length-take-le at buf (omega arith) in
    let long : at + n ≤ length (take (at + 8) new) = omega (arith, ap (λ (xs : List ℕ). length xs) all, length-append (take at buf) bytes) in
    ap (λ (xs : List ℕ). take (at + n) (put_chunk at buf xs)) eight
    ∙ ap (λ (xs : List ℕ). take (at + n) xs) (sym (take-append-drop (at + 8) new))
    ∙ take-append-le (at + n) (take (at + 8) new) (drop (at + 8) new) long
    ∙ ap (λ (xs : List ℕ). take (at + n) xs) all
    ∙ ap (λ (k : ℕ). take (k + n) (take at buf ++ bytes)) (sym first)
    ∙ take-append-add (take at buf) bytes n

-- a coordinate of at most three digits
pub coordinate_short : (z : ℤ) → unsigned_abs z ≤ 999 → length (coordinate z) ≤ 7
unfolding coordinate
coordinate_short (pos n) small = omega (arith, length-append (decimal n) (codes "e-2"), length-decimal-le 3 n (omega arith) (omega arith) (omega arith))
coordinate_short (negsuc n) small = omega (arith, length-append (45 ∷ decimal (suc n)) (codes "e-2"), length-decimal-le 3 (suc n) (omega arith) (omega arith) (omega arith))

-- the line of a point, by the texts of its numbers
pub point_is : (x y z : List ℕ) → codes "v " ++ x ++ codes " " ++ y ++ codes " " ++ z ++ codes "\n" ≡ (118 ∷ []) ++ (32 ∷ x) ++ (32 ∷ y) ++ (32 ∷ z) ++ 10 ∷ []
point_is x y z =
    ap (λ (l : List ℕ). l ++ codes " " ++ z ++ codes "\n") (append_assoc (codes "v " ++ x) (codes " ") y)
    ∙ ap (λ (l : List ℕ). l ++ codes "\n") (append_assoc (codes "v " ++ x ++ (32 ∷ y)) (codes " ") z)

-- five texts in a row behind some bytes
pub five_behind : (before a x y z e : List ℕ) → before ++ a ++ x ++ y ++ z ++ e ≡ before ++ (a ++ x ++ y ++ z ++ e)
five_behind before a x y z e =
    ap (λ (l : List ℕ). l ++ y ++ z ++ e) (append_assoc before a x)
    ∙ ap (λ (l : List ℕ). l ++ z ++ e) (append_assoc before (a ++ x) y)
    ∙ ap (λ (l : List ℕ). l ++ e) (append_assoc before (a ++ x ++ y) z)
    ∙ append_assoc before (a ++ x ++ y ++ z) e

-- the lines of a face, by texts of eight bytes and less
pub face_is : (before : List ℕ) (n : ℕ) → n < 10
    → before ++ codes "usemtl m" ++ ((48 + n) ∷ codes "\nf -3 -") ++ codes "2 -1\n" ≡ before ++ (codes "usemtl m" ++ decimal n ++ codes "\nf -3 -2 -1\n")
face_is before n small =
    ap (λ (l : List ℕ). l ++ codes "2 -1\n") (append_assoc before (codes "usemtl m") ((48 + n) ∷ codes "\nf -3 -"))
    ∙ append_assoc before (codes "usemtl m" ++ ((48 + n) ∷ codes "\nf -3 -")) (codes "2 -1\n")
    ∙ ap (λ (l : List ℕ). before ++ (codes "usemtl m" ++ l ++ codes "\nf -3 -2 -1\n")) (sym (decimal_digit n small))

-- one byte more
pub take_more_set : (i y : ℕ) (buf : List ℕ) → i < length buf → take (i + 1) (set buf i y) ≡ take i buf ++ y ∷ []
take_more_set i y buf within = let next : i + 1 ≡ suc i = omega arith in ap (λ (k : ℕ). take k (set buf i y)) next ∙ take-suc-set buf i y within

-- the text of the next number
pub drawn_more : (number_texts : List ShortText) (p : ShortText) (n : ℕ) → length number_texts ≡ n → AreDrawn number_texts → IsShortText (drawn n) p → AreDrawn (number_texts ++ p ∷ [])
drawn_more number_texts p n size before is = λ i d within.
    ⊎_elim
    (λ (below : i < length number_texts). subst (λ (q : ShortText). IsShortText (drawn i) q) (sym (get_or-append number_texts (p ∷ []) d i below)) (before i d below))
    (λ (past : length number_texts ≤ i).
    let last : i ≡ length number_texts = omega (arith, length-append number_texts (p ∷ [])) in
    let found : get_or (number_texts ++ p ∷ []) i d ≡ p = ap (λ (k : ℕ). get_or (number_texts ++ p ∷ []) k d) last ∙ get_or-append_seam number_texts p [] d in
    subst (λ (q : ShortText). IsShortText (drawn i) q) (sym found) (subst (λ (k : ℕ). IsShortText (drawn k) p) (sym (last ∙ size)) is))
    (cases_lt i (length number_texts))

-- a text behind a byte
pub piece_fits : (old before text out : List ℕ) → out ≡ old ++ before ++ text → length old ≡ 0 → length before ≡ 1 → length text ≤ 7 → length out ≤ 8
piece_fits old before text out is none one short = omega (arith, ap (λ (xs : List ℕ). length xs) is, length-append (old ++ before) text, length-append old before)
