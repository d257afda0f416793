-- Numbers and elements that are read at the start of a text.
use Rattle.std.proofs.Common.{◌≡◌, ◌∙◌, ℕ, zero, suc, ◌+◌, ◌-◌, ◌*◌, ◌<◌, ◌≤◌, ◌==◌, ◌&&◌, Bool, true, false, nat_lt, nat_le, List, [], ◌∷◌, ◌++◌, length, take, drop, get_or, position, Some, None, refl, sym, ap, subst, arith, ⊎_elim, if◌then◌else◌}
use Rattle.std.specs.List.{position_or_len, list_all, list_any}
use Rattle.std.proofs.Math.Seq.{take-append_seam, drop-append-add}
use Rattle.std.proofs.lemmas.List.{length-take-le}
use Rattle.std.proofs.lemmas.List.Folds.{list_all-append}
use Rattle.std.proofs.lemmas.Bool.{cases_Bool}
use Rattle.std.proofs.lemmas.Bool.Decides.{nat_tests}
use Rattle.std.proofs.lemmas.Grind.{common_steps}
use Rattle.abuf_num.specs.Decimal as decimal
use Rattle.abuf_num.specs.Leading.{is_number_byte}
use Rattle.abuf_num.proofs.Notation.{seam}
use Rattle.abuf_text.specs.Statement.{is_space, IsPlain}
use Rattle.abuf_num.specs.Decimal.{is_negative}
use Rattle.abuf_obj.specs.Elements.{is_digit, is_slash, without_minus, spelled_from, spelled, before_slash, after_slash, is_unused_index, is_normal, is_texture_and_normal, vertex_of, vertex_of_index}
use Rattle.abuf_obj.specs.LeadingElement.{is_index_byte, is_element_byte}

one_more : (n : ℕ) → 1 + n ≡ suc n
one_more n = omega arith

head_of : (q : ℕ → Bool) (b : ℕ) (bs : List ℕ) → list_all q (b ∷ bs) ≡ true → q b ≡ true
head_of q b bs all = grind arith

rest_of : (q : ℕ → Bool) (b : ℕ) (bs : List ℕ) → list_all q (b ∷ bs) ≡ true → list_all q bs ≡ true
rest_of q b bs all = grind arith

-- what passes one test passes another that is weaker
weaker : (q p : ℕ → Bool) → ((b : ℕ) → q b ≡ true → p b ≡ true) → (xs : List ℕ) → list_all q xs ≡ true → list_all p xs ≡ true
weaker q p is [] all = refl
weaker q p is (b ∷ bs) all = rw (is b (head_of q b bs all)) (rw (weaker q p is bs (rest_of q b bs all)) refl)

-- bytes that are no spaces, and of which none begins a comment, are a token
plain : (q : ℕ → Bool) → ((b : ℕ) → q b ≡ true → is_space b ≡ false) → ((b : ℕ) → q b ≡ true → (b == 35) ≡ false) → (xs : List ℕ) → 0 < length xs → list_all q xs ≡ true → IsPlain xs
plain q space hash [] some all = absurd (let none : 0 < 0 = some in omega arith)
plain q space hash (b ∷ bs) some all = record { some = some; spaces = none (b ∷ bs) all; comment = hash b (head_of q b bs all) } where
  none : (xs : List ℕ) → list_all q xs ≡ true → list_any is_space xs ≡ false
  none [] h = refl
  none (x ∷ xs) h = rw (space x (head_of q x xs h)) (none xs (rest_of q x xs h))

number_space : (b : ℕ) → is_number_byte b ≡ true → is_space b ≡ false
number_space b here = grind (arith, nat_tests)

number_hash : (b : ℕ) → is_number_byte b ≡ true → (b == 35) ≡ false
number_hash b here = grind (arith, nat_tests)

element_space : (b : ℕ) → is_element_byte b ≡ true → is_space b ≡ false
element_space b here = grind (arith, nat_tests)

element_hash : (b : ℕ) → is_element_byte b ≡ true → (b == 35) ≡ false
element_hash b here = grind (arith, nat_tests)

module _ (text : List ℕ) (n : ℕ) (some : 0 < n) (within : n ≤ length text) where
  taken : 0 < length (take n text)
  taken = omega (arith, length-take-le n text within)

  -- a number is a token, and so is an element
  pub number_is_plain : list_all is_number_byte (take n text) ≡ true → IsPlain (take n text)
  number_is_plain all = plain is_number_byte number_space number_hash (take n text) taken all

  pub element_is_plain : list_all is_element_byte (take n text) ≡ true → IsPlain (take n text)
  element_is_plain all = plain is_element_byte element_space element_hash (take n text) taken all

-- digits spell their number
digits_spell : (n : ℕ) (xs : List ℕ) → decimal.all_digits xs ≡ true → spelled_from n xs ≡ Some (decimal.spelled_from n xs)
digits_spell n [] all = refl
digits_spell n (b ∷ bs) all =
    let digit : is_digit b ≡ true = head_of decimal.is_digit b bs all in
    rw digit (digits_spell (10 * n + (b - 48)) bs (rest_of decimal.is_digit b bs all))

digit_is : (b : ℕ) → decimal.is_digit b ≡ true → is_index_byte b ≡ true
digit_is b digit = grind (arith, nat_tests)

minus_is : (b : ℕ) → (b == 45) ≡ true → is_index_byte b ≡ true
minus_is b minus = grind (arith, nat_tests)

-- an index at the start of a text
pub record Indexed (text : List ℕ) (negative : Bool) (value : ℕ) : Type 0 where
  pub some : 0 < length text
  pub bytes : list_all is_index_byte text ≡ true
  pub sign : negative ≡ is_negative text
  pub spells : spelled (without_minus text) ≡ Some value

-- one to ten digits spell their number
spells : (xs : List ℕ) → 0 < length xs → length xs ≤ 10 → decimal.all_digits xs ≡ true → spelled xs ≡ Some (decimal.spelled_from 0 xs)
spells xs some few all =
    let short : (nat_lt 0 (length xs) && nat_le (length xs) 10) ≡ true = grind (arith, nat_tests) in
    rw short (digits_spell 0 xs all)

pub indexed : (text unsigned : List ℕ) (n value : ℕ) → unsigned ≡ without_minus text → 0 < n → n ≤ 10 → n ≤ length unsigned → decimal.all_digits (take n unsigned) ≡ true
    → value ≡ decimal.spelled_from 0 (take n unsigned) → Indexed (take (length text - length unsigned + n) text) (is_negative text) value
indexed [] unsigned n value at some few within all is = absurd (let none : n ≤ 0 = subst (λ (xs : List ℕ). n ≤ length xs) at within in omega arith)
indexed (b ∷ bs) unsigned n value at some few within all is =
    ⊎_elim
    (λ (minus : (b == 45) ≡ true).
    let rest : unsigned ≡ bs = at ∙ rw minus refl in
    let size : length unsigned ≡ length bs = ap (λ (xs : List ℕ). length xs) rest in
    let k : length (b ∷ bs) - length unsigned + n ≡ suc n = omega (arith, size) in
    let front : take (length (b ∷ bs) - length unsigned + n) (b ∷ bs) ≡ b ∷ take n unsigned = ap (λ (j : ℕ). take j (b ∷ bs)) k ∙ ap (λ (xs : List ℕ). b ∷ take n xs) (sym rest) in
    let cut : without_minus (b ∷ take n unsigned) ≡ take n unsigned = rw minus refl in
    record {
      some = rw front (omega arith);
      bytes = rw front (rw (minus_is b minus) (weaker decimal.is_digit is_index_byte digit_is (take n unsigned) all));
      sign = ap is_negative (sym front);
      spells = ap (λ (xs : List ℕ). spelled (without_minus xs)) front ∙ ap spelled cut ∙ spells (take n unsigned) taken size10 all ∙ ap Some (sym is);
    })
    (λ (plus : (b == 45) ≡ false).
    let rest : unsigned ≡ b ∷ bs = at ∙ rw plus refl in
    let size : length unsigned ≡ length (b ∷ bs) = ap (λ (xs : List ℕ). length xs) rest in
    let k : length (b ∷ bs) - length unsigned + n ≡ n = omega (arith, size) in
    let front : take (length (b ∷ bs) - length unsigned + n) (b ∷ bs) ≡ take n unsigned = ap (λ (j : ℕ). take j (b ∷ bs)) k ∙ ap (λ (xs : List ℕ). take n xs) (sym rest) in
    let sign : is_negative (b ∷ bs) ≡ is_negative (take n unsigned) = first_kept b bs n some ∙ ap (λ (xs : List ℕ). is_negative (take n xs)) (sym rest) in
    let cut : without_minus (take n unsigned) ≡ take n unsigned = rw (sym sign ∙ plus) refl in
    record {
      some = rw front taken;
      bytes = rw front (weaker decimal.is_digit is_index_byte digit_is (take n unsigned) all);
      sign = sign ∙ ap is_negative (sym front);
      spells = ap (λ (xs : List ℕ). spelled (without_minus xs)) front ∙ ap spelled cut ∙ spells (take n unsigned) taken size10 all ∙ ap Some (sym is);
    })
    (cases_Bool (b == 45))
  where
    first_kept : (x : ℕ) (xs : List ℕ) (m : ℕ) → 0 < m → is_negative (x ∷ xs) ≡ is_negative (take m (x ∷ xs))
    first_kept x xs zero h = absurd (omega arith)
    first_kept x xs (suc m) h = refl

    taken : 0 < length (take n unsigned)
    taken = omega (arith, length-take-le n unsigned within)

    size10 : length (take n unsigned) ≤ 10
    size10 = omega (arith, length-take-le n unsigned within)

-- an index that isn't used, or none
pub unused : (text : List ℕ) (value : ℕ) → spelled (without_minus text) ≡ Some value → is_unused_index text ≡ true
unused text value is = rw is (⊎_elim (λ (empty : (length text == 0) ≡ true). rw empty refl) (λ (some : (length text == 0) ≡ false). rw some refl) (cases_Bool (length text == 0)))

index_no_slash : (b : ℕ) → is_index_byte b ≡ true → is_slash b ≡ false
index_no_slash b here = grind (arith, nat_tests)

no_slash : (xs : List ℕ) → list_all is_index_byte xs ≡ true → position_or_len is_slash xs ≡ length xs
no_slash [] all = refl
no_slash (b ∷ bs) all = rw (index_no_slash b (head_of is_index_byte b bs all)) (rw (no_slash bs (rest_of is_index_byte b bs all)) (one_more (length bs)))

slash_behind : (xs ys : List ℕ) → list_all is_index_byte xs ≡ true → position_or_len is_slash (xs ++ 47 ∷ ys) ≡ length xs
slash_behind [] ys all = refl
slash_behind (b ∷ bs) ys all = rw (index_no_slash b (head_of is_index_byte b bs all)) (rw (slash_behind bs ys (rest_of is_index_byte b bs all)) (one_more (length bs)))

no_position : (xs : List ℕ) → list_all is_index_byte xs ≡ true → position is_slash xs ≡ None
no_position xs all = rw (no_slash xs all) (grind (arith, nat_tests))

position_behind : (xs ys : List ℕ) → list_all is_index_byte xs ≡ true → position is_slash (xs ++ 47 ∷ ys) ≡ Some (length xs)
position_behind xs ys all =
    let within : nat_lt (length xs) (length (xs ++ 47 ∷ ys)) ≡ true = grind (arith, nat_tests, common_steps) in
    rw (slash_behind xs ys all) (rw within refl)

module _ (xs : List ℕ) (all : list_all is_index_byte xs ≡ true) where
  before_none : before_slash xs ≡ xs
  before_none = rw (no_position xs all) refl

  after_none : after_slash xs ≡ None
  after_none = rw (no_position xs all) refl

  before_some : (ys : List ℕ) → before_slash (xs ++ 47 ∷ ys) ≡ xs
  before_some ys = rw (position_behind xs ys all) (take-append_seam xs (47 ∷ ys))

  after_some : (ys : List ℕ) → after_slash (xs ++ 47 ∷ ys) ≡ Some ys
  after_some ys = rw (position_behind xs ys all) (ap Some (drop-append-add xs (47 ∷ ys) 1))

index_is : (b : ℕ) → is_index_byte b ≡ true → is_element_byte b ≡ true
index_is b here = grind (arith, nat_tests)

slashed : (xs ys : List ℕ) → list_all is_index_byte xs ≡ true → list_all is_element_byte ys ≡ true → list_all is_element_byte (xs ++ 47 ∷ ys) ≡ true
slashed xs ys first second = list_all-append is_element_byte xs (47 ∷ ys) ∙ rw (weaker is_index_byte is_element_byte index_is xs first) (rw second refl)

pub index_bytes : (xs : List ℕ) → list_all is_index_byte xs ≡ true → list_all is_element_byte xs ≡ true
index_bytes xs all = weaker is_index_byte is_element_byte index_is xs all

-- a texture's index alone, and a normal's behind it
pub texture_alone : (xs : List ℕ) → list_all is_index_byte xs ≡ true → is_unused_index xs ≡ true → is_texture_and_normal (Some xs) ≡ true
texture_alone xs all is = λ i. (ap is_unused_index (before_none xs all) ∙ is) i && ap is_normal (after_none xs all) i

module _ (text behind : List ℕ) (a b : ℕ) (within : a < length text) (slash : get_or text a 0 ≡ 47) (cut : behind ≡ drop (a + 1) text) (index : list_all is_index_byte (take a text) ≡ true) where
  front : take (a + 1 + b) text ≡ take a text ++ 47 ∷ take b behind
  front = seam text a b 47 within slash ∙ ap (λ (xs : List ℕ). take a text ++ 47 ∷ take b xs) (sym cut)

  pub slash_bytes : list_all is_element_byte (take b behind) ≡ true → list_all is_element_byte (take (a + 1 + b) text) ≡ true
  slash_bytes more = rw front (slashed (take a text) (take b behind) index more)

  pub texture_and_normal : is_unused_index (take a text) ≡ true → is_unused_index (take b behind) ≡ true → is_texture_and_normal (Some (take (a + 1 + b) text)) ≡ true
  texture_and_normal texture normal =
      ap (λ (xs : List ℕ). is_texture_and_normal (Some xs)) front
      ∙ λ i. (ap is_unused_index (before_some (take a text) index (take b behind)) ∙ texture) i && (ap is_normal (after_some (take a text) index (take b behind)) ∙ normal) i

  pub vertex_behind : (above : ℕ) → is_texture_and_normal (Some (take b behind)) ≡ true → vertex_of above (take (a + 1 + b) text) ≡ vertex_of_index above (take a text)
  vertex_behind above unused =
      ap (vertex_of above) front
      ∙ (λ i. if is_texture_and_normal (after_some (take a text) index (take b behind) i) then vertex_of_index above (before_some (take a text) index (take b behind) i) else None)
      ∙ rw unused refl

pub vertex_alone : (above : ℕ) (xs : List ℕ) → list_all is_index_byte xs ≡ true → vertex_of above xs ≡ vertex_of_index above xs
vertex_alone above xs all = λ i. if is_texture_and_normal (after_none xs all i) then vertex_of_index above (before_none xs all i) else None
