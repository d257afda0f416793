-- The statement of a line, one after another.
use Rattle.std.proofs.Common.{◌++◌, ◌-◌, ap₂, take, drop, drop-cons, get_or, ℕ, ◌≡◌, ◌+◌, ◌<◌, ◌∷◌, [], true, false, List, length, filter, suc, refl, sym, ap, ◌∙◌, subst, arith, ⊎_elim}
use Rattle.std.specs.List.{slice_split, position_or_len, onto_first, list_any}
use Rattle.std.proofs.Math.Seq.{take-append_seam, drop-append_seam, take-length}
use Rattle.std.proofs.lemmas.List.{length-drop, take-append-drop}
use Rattle.std.proofs.lemmas.Bool.{cases_Bool}
use Rattle.std.proofs.lemmas.Bool.Decides.{nat_tests}
use Rattle.std.proofs.lemmas.List.Splits.{slice_split-cons_yes, slice_split-cons_no}
use Rattle.abuf_text.specs.Statement.{tokens, statement, before_comment, is_space, is_some_text, is_comment, IsPlain}
use Rattle.abuf_text.specs.Rest.{trim_start, first_token, after_token, is_text}

one_more : (n : ℕ) → 1 + n ≡ suc n
one_more n = omega arith

trim-blank : (b : ℕ) (bs : List ℕ) → is_space b ≡ true → trim_start (b ∷ bs) ≡ trim_start bs
trim-blank b bs blank = rw blank (rw (one_more (position_or_len is_text bs)) refl)

trim-text : (b : ℕ) (bs : List ℕ) → is_space b ≡ false → trim_start (b ∷ bs) ≡ b ∷ bs
trim-text b bs text = rw text refl

first-text : (b : ℕ) (bs : List ℕ) → is_space b ≡ false → first_token (b ∷ bs) ≡ b ∷ first_token bs
first-text b bs text = rw text (rw (one_more (position_or_len is_space bs)) refl)

after-text : (b : ℕ) (bs : List ℕ) → is_space b ≡ false → after_token (b ∷ bs) ≡ after_token bs
after-text b bs text = rw text (rw (one_more (position_or_len is_space bs)) refl)

tokens-blank : (b : ℕ) (bs : List ℕ) → is_space b ≡ true → tokens (b ∷ bs) ≡ tokens bs
unfolding tokens
tokens-blank b bs blank = ap (filter is_some_text) (slice_split-cons_yes is_space b bs blank)

-- rest in front give no token
tokens-trim_start : (bs : List ℕ) → tokens (trim_start bs) ≡ tokens bs
tokens-trim_start [] = refl
tokens-trim_start (b ∷ bs) =
    ⊎_elim
    (λ blank. ap tokens (trim-blank b bs blank) ∙ tokens-trim_start bs ∙ sym (tokens-blank b bs blank))
    (λ text. ap tokens (trim-text b bs text))
    (cases_Bool (is_space b))

-- the parts of a split: the first word, and others with the tokens behind it
record Begins (bs : List ℕ) : Type 0 where
  parts : List (List ℕ)
  split : slice_split is_space bs ≡ first_token bs ∷ parts
  after : filter is_some_text parts ≡ tokens (after_token bs)

begins-blank : (b : ℕ) (bs : List ℕ) → is_space b ≡ true → Begins (b ∷ bs)
unfolding tokens
begins-blank b bs blank =
    let first : first_token (b ∷ bs) ≡ [] = rw blank refl in
    let after : after_token (b ∷ bs) ≡ b ∷ bs = rw blank refl in
    record {
      parts = slice_split is_space bs;
      split = slice_split-cons_yes is_space b bs blank ∙ ap (λ (w : List ℕ). w ∷ slice_split is_space bs) (sym first);
      after = sym (tokens-blank b bs blank) ∙ ap tokens (sym after);
    }

begins : (bs : List ℕ) → Begins bs
unfolding tokens
begins [] = record { parts = []; split = refl; after = refl }
begins (b ∷ bs) =
    let inner = begins bs in
    ⊎_elim
    (λ blank. begins-blank b bs blank)
    (λ text. record {
      parts = inner.parts;
      split = slice_split-cons_no is_space b bs text ∙ ap (onto_first b) inner.split ∙ ap (λ (w : List ℕ). w ∷ inner.parts) (sym (first-text b bs text));
      after = inner.after ∙ ap tokens (sym (after-text b bs text));
    })
    (cases_Bool (is_space b))

-- what begins without a blank begins with a word
word_is_some : (bs : List ℕ) → 0 < length (trim_start bs) → is_some_text (first_token (trim_start bs)) ≡ true
word_is_some [] some = absurd (omega arith)
word_is_some (b ∷ bs) some =
    ⊎_elim
    (λ blank.
    let e = trim-blank b bs blank in
    ap (λ (t : List ℕ). is_some_text (first_token t)) e ∙ word_is_some bs (subst (λ (t : List ℕ). 0 < length t) e some))
    (λ text. ap (λ (t : List ℕ). is_some_text (first_token t)) (trim-text b bs text) ∙ ap is_some_text (first-text b bs text) ∙ grind (arith, nat_tests))
    (cases_Bool (is_space b))

nil_is : {A : Type 0} (xs : List A) → length xs ≡ 0 → xs ≡ []
nil_is [] e = refl
nil_is (x ∷ xs) e = absurd (omega arith)

tokens-none : (bs : List ℕ) → length (trim_start bs) ≡ 0 → tokens bs ≡ []
unfolding tokens
tokens-none bs none = sym (tokens-trim_start bs) ∙ ap (λ (t : List ℕ). filter is_some_text (slice_split is_space t)) (nil_is (trim_start bs) none)

tokens-first : (bs : List ℕ) → 0 < length (trim_start bs) → tokens bs ≡ first_token (trim_start bs) ∷ tokens (after_token (trim_start bs))
unfolding tokens
tokens-first bs some =
    let text = trim_start bs in
    let b = begins text in
    sym (tokens-trim_start bs) ∙ ap (filter is_some_text) b.split ∙ rw (word_is_some bs some) (ap (λ (ws : List (List ℕ)). first_token text ∷ ws) b.after)

more : (t : List ℕ) (ts : List (List ℕ)) → is_comment t ≡ false → before_comment (t ∷ ts) ≡ t ∷ before_comment ts
more t ts plain = rw plain (rw (one_more (position_or_len is_comment ts)) refl)

none_before : (t : List ℕ) (ts : List (List ℕ)) → is_comment t ≡ true → before_comment (t ∷ ts) ≡ []
none_before t ts comment = rw comment refl

-- no word is left
pub statement-none : (bs : List ℕ) → length (trim_start bs) ≡ 0 → statement bs ≡ []
statement-none bs none = ap before_comment (tokens-none bs none)

-- a comment begins
pub statement-comment : (bs : List ℕ) → 0 < length (trim_start bs) → is_comment (first_token (trim_start bs)) ≡ true → statement bs ≡ []
statement-comment bs some comment = ap before_comment (tokens-first bs some) ∙ none_before (first_token (trim_start bs)) (tokens (after_token (trim_start bs))) comment

-- the first word, and those behind it
pub statement-first : (bs : List ℕ) → 0 < length (trim_start bs) → is_comment (first_token (trim_start bs)) ≡ false
    → statement bs ≡ first_token (trim_start bs) ∷ statement (after_token (trim_start bs))
statement-first bs some plain = ap before_comment (tokens-first bs some) ∙ more (first_token (trim_start bs)) (tokens (after_token (trim_start bs))) plain

pub statement-nil : statement [] ≡ []
statement-nil = statement-none [] refl

pub statement-trim_none : (text : List ℕ) → length text ≡ 0 → statement text ≡ []
statement-trim_none text none = ap statement (nil_is text none) ∙ statement-nil

pub statement-trim_start : (bs : List ℕ) → statement (trim_start bs) ≡ statement bs
statement-trim_start bs = ap before_comment (tokens-trim_start bs)

-- where no byte is a space, neither the first is, nor one of the others
record Spaceless (b : ℕ) (bs : List ℕ) : Type 0 where
  first : is_space b ≡ false
  others : list_any is_space bs ≡ false

spaceless : (b : ℕ) (bs : List ℕ) → list_any is_space (b ∷ bs) ≡ false → Spaceless b bs
spaceless b bs none =
    ⊎_elim
    (λ (blank : is_space b ≡ true). absurd (let clash : true ≡ false = sym (let e : list_any is_space (b ∷ bs) ≡ true = rw blank refl in e) ∙ none in cc))
    (λ (text : is_space b ≡ false). record { first = text; others = sym (let e : list_any is_space (b ∷ bs) ≡ list_any is_space bs = rw text refl in e) ∙ none })
    (cases_Bool (is_space b))

-- it begins with a space, if it has a byte
abbrev pub BeginsSpaced : List ℕ → Type 0
BeginsSpaced [] = Unit {0}
BeginsSpaced (b ∷ bs) = is_space b ≡ true

-- the first space stands behind bytes that are none
space_behind : (xs ys : List ℕ) → list_any is_space xs ≡ false → BeginsSpaced ys → position_or_len is_space (xs ++ ys) ≡ length xs
space_behind [] [] none spaced = refl
space_behind [] (y ∷ ys) none spaced = rw spaced refl
space_behind (b ∷ bs) ys none spaced =
    let at = spaceless b bs none in
    rw at.first (rw (space_behind bs ys at.others spaced) (one_more (length bs)))

-- a token that begins no comment, and the statement behind it
pub statement-plain : (xs ys : List ℕ) → IsPlain xs → BeginsSpaced ys → statement (xs ++ ys) ≡ xs ∷ statement ys
statement-plain [] ys plain spaced = absurd (let some : 0 < 0 = plain.some in omega arith)
statement-plain (b ∷ bs) ys plain spaced =
    let all = (b ∷ bs) ++ ys in
    let here : position_or_len is_space all ≡ length (b ∷ bs) = space_behind (b ∷ bs) ys plain.spaces spaced in
    let trim : trim_start all ≡ all = trim-text b (bs ++ ys) (spaceless b bs plain.spaces).first in
    let first : first_token all ≡ b ∷ bs = ap (λ (n : ℕ). take n all) here ∙ take-append_seam (b ∷ bs) ys in
    let after : after_token all ≡ ys = ap (λ (n : ℕ). drop n all) here ∙ drop-append_seam (b ∷ bs) ys in
    let some : 0 < length (trim_start all) = subst (λ (t : List ℕ). 0 < length t) (sym trim) (omega arith) in
    let comment : is_comment (first_token (trim_start all)) ≡ false = ap (λ (t : List ℕ). is_comment (first_token t)) trim ∙ ap is_comment first ∙ plain.comment in
    statement-first all some comment ∙ ap (λ (t : List ℕ). first_token t ∷ statement (after_token t)) trim ∙ ap₂ (λ (t u : List ℕ). t ∷ statement u) first after

module _ (text : List ℕ) (count : ℕ) (plain : IsPlain (take count text)) where
  cut : BeginsSpaced (drop count text) → statement text ≡ take count text ∷ statement (drop count text)
  cut spaced = ap statement (sym (take-append-drop count text)) ∙ statement-plain (take count text) (drop count text) plain spaced

  -- the token is the whole text
  pub behind-end : count ≡ length text → statement text ≡ take count text ∷ statement []
  behind-end end =
      let none : drop count text ≡ [] = nil_is (drop count text) (length-drop count text ∙ omega arith) in
      cut (subst BeginsSpaced (sym none) tt) ∙ ap (λ (t : List ℕ). take count text ∷ statement t) none

  -- a space stands behind the token
  pub behind-space : count < length text → is_space (get_or text count 0) ≡ true → statement text ≡ take count text ∷ statement (take (length text - count) (drop count text))
  behind-space within space =
      let next = drop-cons text count 0 within in
      let end : take (length text - count) (drop count text) ≡ drop count text = ap (λ (n : ℕ). take n (drop count text)) (sym (length-drop count text)) ∙ take-length (drop count text) in
      cut (subst BeginsSpaced (sym next) space) ∙ ap (λ (t : List ℕ). take count text ∷ statement t) (sym end)
