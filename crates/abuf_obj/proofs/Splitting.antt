-- The lines of two texts, one behind the other.
use Rattle.std.proofs.Common.{◌≡◌, ◌<◌, ◌++◌, ◌∷◌, [], ℕ, suc, List, length, get_or, take, drop, drop-cons, append-nil, refl, sym, ap, ◌∙◌, ⊎_elim}
use Rattle.std.proofs.lemmas.List.{take-append-drop}
use Rattle.std.proofs.lemmas.Bool.Decides.{eqb_tells}
use Rattle.std.proofs.Math.Seq.{take-suc}
use Rattle.abuf_text.specs.Lines.{lines, in_front}

-- the first of some lines begins with a byte in front of them, whatever lines come behind
in_front-append : (b : ℕ) (line : List ℕ) (ls ms : List (List ℕ)) → in_front b ((line ∷ ls) ++ ms) ≡ in_front b (line ∷ ls) ++ ms
in_front-append b line ls ms = refl

record Starts (ls : List (List ℕ)) : Type 0 where
  line : List ℕ
  later : List (List ℕ)
  is : ls ≡ line ∷ later

in_front-starts : (b : ℕ) (ls : List (List ℕ)) → Starts (in_front b ls)
in_front-starts b [] = record { line = b ∷ []; later = []; is = refl }
in_front-starts b (line ∷ ls) = record { line = b ∷ line; later = ls; is = refl }

-- a text with a line feed has a line
lines-starts : (xs : List ℕ) → Starts (lines (xs ++ 10 ∷ []))
unfolding lines
lines-starts [] = record { line = []; later = []; is = refl }
lines-starts (b ∷ bs) =
    ⊎_elim
    (λ feed. record { line = []; later = lines (bs ++ 10 ∷ []); is = rw feed.0 refl })
    (λ other. let s = in_front-starts b (lines (bs ++ 10 ∷ [])) in record { line = s.line; later = s.later; is = rw other.0 s.is })
    (eqb_tells b 10)

in_front-both : (b : ℕ) (ls ms : List (List ℕ)) → Starts ls → in_front b (ls ++ ms) ≡ in_front b ls ++ ms
in_front-both b ls ms s = ap (λ (ks : List (List ℕ)). in_front b (ks ++ ms)) s.is ∙ ap (λ (ks : List (List ℕ)). in_front b ks ++ ms) (sym s.is)

-- a line feed ends the lines before it
lines-feed : (xs ys : List ℕ) → lines (xs ++ 10 ∷ ys) ≡ lines (xs ++ 10 ∷ []) ++ lines ys
unfolding lines
lines-feed [] ys = refl
lines-feed (b ∷ bs) ys =
    ⊎_elim
    (λ feed. rw feed.0 (ap (λ (ls : List (List ℕ)). [] ∷ ls) (lines-feed bs ys)))
    (λ other. rw other.0 (ap (in_front b) (lines-feed bs ys) ∙ in_front-both b (lines (bs ++ 10 ∷ [])) (lines ys) (lines-starts bs)))
    (eqb_tells b 10)

-- a text is cut behind a line feed
pub lines-cut : (bytes : List ℕ) (k : ℕ) → k < length bytes → get_or bytes k 0 ≡ 10 → lines bytes ≡ lines (take (suc k) bytes) ++ lines (drop (suc k) bytes)
lines-cut bytes k within feed =
    let next = drop-cons bytes k 0 within ∙ ap (λ (b : ℕ). b ∷ drop (suc k) bytes) feed in
    let front = take-suc bytes k 0 within ∙ ap (λ (b : ℕ). take k bytes ++ b ∷ []) feed in
    ap lines (sym (take-append-drop k bytes))
    ∙ ap (λ (rest : List ℕ). lines (take k bytes ++ rest)) next
    ∙ lines-feed (take k bytes) (drop (suc k) bytes)
    ∙ ap (λ (first : List ℕ). lines first ++ lines (drop (suc k) bytes)) (sym front)

pub lines-none : (bytes : List ℕ) → lines bytes ≡ lines bytes ++ lines []
unfolding lines
lines-none bytes = sym (append-nil (lines bytes))
