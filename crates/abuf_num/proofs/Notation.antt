-- How numbers are written: the parts of a text that begins with a number.
use Rattle.std.proofs.Common.{◌≡◌, ◌∙◌, ℕ, zero, suc, ◌+◌, ◌<◌, ◌≤◌, Bool, true, false, ◌&&◌, ◌||◌, ◌==◌, nat_lt, List, [], ◌∷◌, ◌++◌, length, take, drop, position, Option, Some, None, refl, sym, ap, ap₂, subst, arith, ◌-◌, get_or, drop-cons, append-nil, ⊎_elim, if◌then◌else◌}
use Rattle.std.specs.List.{position_or_len, list_all}
use Rattle.std.proofs.Math.Seq.{take-append_seam, drop-append-add, take-length, take-add}
use Rattle.std.proofs.lemmas.List.{length-drop, length-take-le}
use Rattle.std.proofs.lemmas.List.Folds.{list_all-append}
use Rattle.std.proofs.lemmas.Bool.{cases_Bool}
use Rattle.std.proofs.lemmas.Grind.{common_steps}
use Rattle.std.proofs.lemmas.Bool.Decides.{nat_tests}
use Rattle.abuf_num.specs.Decimal.{Number, is_digit, all_digits, is_mark, is_point, is_negative, without_sign, number_of, number_from, mantissa_of, exponent_of, cut_by}
use Rattle.abuf_num.specs.Leading.{is_mantissa_byte, is_number_byte, behind_mark, BeginsMarked}

-- a digit is no point
point_no : (b : ℕ) → is_digit b ≡ true → is_point b ≡ false
point_no b digit = grind (arith, nat_tests)

-- a byte of a mantissa is no mark
mark_no : (b : ℕ) → is_mantissa_byte b ≡ true → is_mark b ≡ false
mark_no b digit = grind (arith, nat_tests)

-- a digit is a byte of a mantissa
digit_is : (b : ℕ) → is_digit b ≡ true → is_mantissa_byte b ≡ true
digit_is b digit = grind (arith, nat_tests)

-- a byte of a mantissa is one of a number
mantissa_is : (b : ℕ) → is_mantissa_byte b ≡ true → is_number_byte b ≡ true
mantissa_is b here = grind (arith, nat_tests)

-- one and a number is the number after it
one_more : (n : ℕ) → 1 + n ≡ suc n
one_more n = omega arith

module _ (q : ℕ → Bool) where
  -- where all pass, the first does
  head_of : (b : ℕ) (bs : List ℕ) → list_all q (b ∷ bs) ≡ true → q b ≡ true
  head_of b bs all = grind arith

  -- So do the others.
  rest_of : (b : ℕ) (bs : List ℕ) → list_all q (b ∷ bs) ≡ true → list_all q bs ≡ true
  rest_of b bs all = grind arith

-- what passes one test passes another that is weaker
weaker : (q p : ℕ → Bool) → ((b : ℕ) → q b ≡ true → p b ≡ true) → (xs : List ℕ) → list_all q xs ≡ true → list_all p xs ≡ true
weaker q p is [] all = refl
weaker q p is (b ∷ bs) all = rw (is b (head_of q b bs all)) (rw (weaker q p is bs (rest_of q b bs all)) refl)

-- two texts of such bytes, one behind the other
joined : (p : ℕ → Bool) (xs ys : List ℕ) → list_all p xs ≡ true → list_all p ys ≡ true → list_all p (xs ++ ys) ≡ true
joined p xs ys first second = list_all-append p xs ys ∙ rw first (rw second refl)

module _ (q p : ℕ → Bool) (other : (b : ℕ) → q b ≡ true → p b ≡ false) where
  -- no such byte is among others
  none_among : (xs : List ℕ) → list_all q xs ≡ true → position_or_len p xs ≡ length xs
  none_among [] all = refl
  none_among (b ∷ bs) all = rw (other b (head_of q b bs all)) (rw (none_among bs (rest_of q b bs all)) (one_more (length bs)))

  -- the first such byte stands after the others
  first_behind : (xs ys : List ℕ) (y : ℕ) → list_all q xs ≡ true → p y ≡ true → position_or_len p (xs ++ y ∷ ys) ≡ length xs
  first_behind [] ys y all passes = rw passes refl
  first_behind (b ∷ bs) ys y all passes = rw (other b (head_of q b bs all)) (rw (first_behind bs ys y (rest_of q b bs all) passes) (one_more (length bs)))

  -- so there is no position of one
  no_position : (xs : List ℕ) → list_all q xs ≡ true → position p xs ≡ None
  no_position xs all = rw (none_among xs all) (grind (arith, nat_tests))

  -- and this is the position of the first
  position_behind : (xs ys : List ℕ) (y : ℕ) → list_all q xs ≡ true → p y ≡ true → position p (xs ++ y ∷ ys) ≡ Some (length xs)
  position_behind xs ys y all passes =
      let within : nat_lt (length xs) (length (xs ++ y ∷ ys)) ≡ true = grind (arith, nat_tests, common_steps) in
      rw (first_behind xs ys y all passes) (rw within refl)

  -- the text is not cut
  not_cut : (xs : List ℕ) → list_all q xs ≡ true → cut_by p xs ≡ (xs, None)
  not_cut xs all = rw (no_position xs all) refl

  -- the text is cut behind the others
  cut_behind : (xs ys : List ℕ) (y : ℕ) → list_all q xs ≡ true → p y ≡ true → cut_by p (xs ++ y ∷ ys) ≡ (xs, Some ys)
  cut_behind xs ys y all passes =
      rw (position_behind xs ys y all passes) (rw (take-append_seam xs (y ∷ ys)) (rw (drop-append-add xs (y ∷ ys) 1) refl))

-- digits are a mantissa
pub digits_alone : (xs : List ℕ) → all_digits xs ≡ true → 0 < length xs → mantissa_of (cut_by is_point xs) ≡ Some (xs, [])
digits_alone xs all some =
    let good : (nat_lt 0 (length xs + 0) && (all_digits xs && true)) ≡ true = grind (arith, nat_tests) in
    rw (not_cut is_digit is_point point_no xs all) (rw good refl)

-- digits with a point between them are a mantissa
pub digits_and_point : (xs ys : List ℕ) → all_digits xs ≡ true → all_digits ys ≡ true → 0 < length xs + length ys
    → mantissa_of (cut_by is_point (xs ++ 46 ∷ ys)) ≡ Some (xs, ys)
digits_and_point xs ys all more some =
    let good : (nat_lt 0 (length xs + length ys) && (all_digits xs && all_digits ys)) ≡ true = grind (arith, nat_tests) in
    rw (cut_behind is_digit is_point point_no xs ys 46 all refl) (rw good refl)

-- the bytes of digits, and with a point between them
pub digits_bytes : (xs : List ℕ) → all_digits xs ≡ true → list_all is_mantissa_byte xs ≡ true
digits_bytes xs all = weaker is_digit is_mantissa_byte digit_is xs all

pub point_bytes : (xs ys : List ℕ) → all_digits xs ≡ true → all_digits ys ≡ true → list_all is_mantissa_byte (xs ++ 46 ∷ ys) ≡ true
point_bytes xs ys all more = joined is_mantissa_byte xs (46 ∷ ys) (digits_bytes xs all) (digits_bytes ys more)

mantissa_bytes : (xs : List ℕ) → list_all is_mantissa_byte xs ≡ true → list_all is_number_byte xs ≡ true
mantissa_bytes xs all = weaker is_mantissa_byte is_number_byte mantissa_is xs all

-- a slice to the end
pub to_end : (n : ℕ) (xs : List ℕ) → take (length xs - n) (drop n xs) ≡ drop n xs
to_end n xs = ap (λ (m : ℕ). take m (drop n xs)) (sym (length-drop n xs)) ∙ take-length (drop n xs)

-- some bytes, the byte behind them, and some more
pub seam : (text : List ℕ) (a b y : ℕ) → a < length text → get_or text a 0 ≡ y → take (a + 1 + b) text ≡ take a text ++ y ∷ take b (drop (a + 1) text)
seam text a b y within is =
    let next : a + 1 ≡ suc a = omega arith in
    let all : a + 1 + b ≡ a + suc b = omega arith in
    rw all (take-add a (suc b) text ∙ ap (λ (xs : List ℕ). take a text ++ take (suc b) xs) (drop-cons text a 0 within) ∙ rw (is, next) refl)

-- the number of what stands after a sign
abbrev number_behind : Bool → List ℕ → Option Number
number_behind negative rest =
    let cut = cut_by is_mark rest in
    number_from negative (mantissa_of (cut_by is_point cut.0)) (exponent_of cut.1)

-- a mantissa is cut from the exponent behind it
cut_mark : (xs ys : List ℕ) → list_all is_mantissa_byte xs ≡ true → BeginsMarked ys → cut_by is_mark (xs ++ ys) ≡ (xs, behind_mark ys)
cut_mark xs [] all marked = ap (cut_by is_mark) (append-nil xs) ∙ not_cut is_mantissa_byte is_mark mark_no xs all
cut_mark xs (y ∷ ys) all marked = cut_behind is_mantissa_byte is_mark mark_no xs ys y all marked

-- a mantissa and an exponent are a number
number_is : (negative minus : Bool) (xs ys whole fraction digits : List ℕ) → list_all is_mantissa_byte xs ≡ true → BeginsMarked ys
    → mantissa_of (cut_by is_point xs) ≡ Some (whole, fraction) → exponent_of (behind_mark ys) ≡ Some (minus, digits)
    → number_behind negative (xs ++ ys) ≡ Some (record { negative = negative; whole = whole; fraction = fraction; exponent_negative = minus; exponent = digits })
number_is negative minus xs ys whole fraction digits all marked mantissa exponent = rw (cut_mark xs ys all marked) (rw (mantissa, exponent) refl)

-- what a text with these bytes behind its sign is
record Signed (text : List ℕ) (n : ℕ) : Type 0 where
  negative : is_negative (take (length text - length (without_sign text) + n) text) ≡ is_negative text
  unsigned : without_sign (take (length text - length (without_sign text) + n) text) ≡ take n (without_sign text)
  bytes : list_all is_number_byte (take n (without_sign text)) ≡ true → list_all is_number_byte (take (length text - length (without_sign text) + n) text) ≡ true

sign_is : (b : ℕ) → (b == 45 || b == 43) ≡ true → is_number_byte b ≡ true
sign_is b sign = grind (arith, nat_tests)

signed : (text : List ℕ) (n : ℕ) → 0 < n → n ≤ length (without_sign text) → Signed text n
signed [] n some within = absurd (let none : n ≤ 0 = within in omega arith)
signed (b ∷ bs) zero some within = absurd (omega arith)
signed (b ∷ bs) (suc m) some within =
    ⊎_elim
    (λ (sign : (b == 45 || b == 43) ≡ true).
    let rest : without_sign (b ∷ bs) ≡ bs = rw sign refl in
    let size : length (without_sign (b ∷ bs)) ≡ length bs = ap (λ (xs : List ℕ). length xs) rest in
    let all : length (b ∷ bs) - length (without_sign (b ∷ bs)) + suc m ≡ suc (suc m) = omega (arith, size) in
    record {
      negative = rw all refl;
      unsigned = rw (all, rest) (rw sign refl);
      bytes = λ inner. rw all (rw (sign_is b sign) (subst (λ (xs : List ℕ). list_all is_number_byte (take (suc m) xs) ≡ true) rest inner));
    })
    (λ (plain : (b == 45 || b == 43) ≡ false).
    let rest : without_sign (b ∷ bs) ≡ b ∷ bs = rw plain refl in
    let size : length (without_sign (b ∷ bs)) ≡ length (b ∷ bs) = ap (λ (xs : List ℕ). length xs) rest in
    let all : length (b ∷ bs) - length (without_sign (b ∷ bs)) + suc m ≡ suc m = omega (arith, size) in
    record {
      negative = rw all refl;
      unsigned = rw (all, rest) (rw plain refl);
      bytes = λ inner. rw all (subst (λ (xs : List ℕ). list_all is_number_byte (take (suc m) xs) ≡ true) rest inner);
    })
    (cases_Bool (b == 45 || b == 43))

-- a number at the start of a text, and its bytes
pub record Numbered (text : List ℕ) (negative minus : Bool) (whole fraction digits : List ℕ) : Type 0 where
  pub number : number_of text ≡ Some (record { negative = negative; whole = whole; fraction = fraction; exponent_negative = minus; exponent = digits })
  pub bytes : list_all is_number_byte text ≡ true

-- a sign, a mantissa and an exponent at the start of a text
pub numbered : (text unsigned behind : List ℕ) (m e : ℕ) (minus : Bool) (whole fraction digits : List ℕ) → unsigned ≡ without_sign text → behind ≡ drop m unsigned
    → m ≤ length unsigned → e ≤ length behind → 0 < length (take m unsigned)
    → list_all is_mantissa_byte (take m unsigned) ≡ true → mantissa_of (cut_by is_point (take m unsigned)) ≡ Some (whole, fraction)
    → BeginsMarked (take e behind) → list_all is_number_byte (take e behind) ≡ true → exponent_of (behind_mark (take e behind)) ≡ Some (minus, digits)
    → Numbered (take (length text - length unsigned + m + e) text) (is_negative text) minus whole fraction digits
numbered text unsigned behind m e minus whole fraction digits at_unsigned at_behind within inside some first mantissa marked second exponent =
    let front : take (m + e) unsigned ≡ take m unsigned ++ take e behind = take-add m e unsigned ∙ ap (λ (xs : List ℕ). take m unsigned ++ take e xs) (sym at_behind) in
    let size : length unsigned ≡ length (without_sign text) = ap (λ (xs : List ℕ). length xs) at_unsigned in
    let left : length behind ≡ length unsigned - m = ap (λ (xs : List ℕ). length xs) at_behind ∙ length-drop m unsigned in
    let taken : length (take m unsigned) ≡ m = length-take-le m unsigned within in
    let s : Signed text (m + e) = signed text (m + e) (omega arith) (omega arith) in
    let n : length text - length unsigned + m + e ≡ length text - length (without_sign text) + (m + e) = omega arith in
    let rest : without_sign (take (length text - length (without_sign text) + (m + e)) text) ≡ take m unsigned ++ take e behind =
    s.unsigned ∙ (ap (λ (xs : List ℕ). take (m + e) xs) (sym at_unsigned) ∙ front) in
    let bytes : list_all is_number_byte (take (m + e) (without_sign text)) ≡ true =
    subst (λ (xs : List ℕ). list_all is_number_byte xs ≡ true) (sym (ap (λ (xs : List ℕ). take (m + e) xs) (sym at_unsigned) ∙ front)) (joined is_number_byte (take m unsigned) (take e behind) (mantissa_bytes (take m unsigned) first) second) in
    record {
      number =
          ap (λ (k : ℕ). number_of (take k text)) n
          ∙ (ap₂ number_behind s.negative rest ∙ number_is (is_negative text) minus (take m unsigned) (take e behind) whole fraction digits first marked mantissa exponent);
      bytes = subst (λ (k : ℕ). list_all is_number_byte (take k text) ≡ true) (sym n) (s.bytes bytes);
    }

-- a mark is a byte of a number
mark_is : (b : ℕ) → is_mark b ≡ true → is_number_byte b ≡ true
mark_is b mark = grind (arith, nat_tests)

-- the exponent that these bytes behind a mark are
abbrev exponent_by : List ℕ → Bool → Option (Bool × List ℕ)
exponent_by unsigned minus = if nat_lt 0 (length unsigned) && all_digits unsigned then Some (minus, unsigned) else None

-- an exponent with its mark, and its bytes
pub record Marked (text : List ℕ) (minus : Bool) (digits : List ℕ) : Type 0 where
  pub mark : BeginsMarked text
  pub bytes : list_all is_number_byte text ≡ true
  pub parts : exponent_of (behind_mark text) ≡ Some (minus, digits)

-- a mark, a sign and digits at the start of a text
pub marked : (text signed_text unsigned : List ℕ) (b : ℕ) → 0 < length text → is_mark (get_or text 0 0) ≡ true → signed_text ≡ drop 1 text → unsigned ≡ without_sign signed_text
    → 0 < b → b ≤ length unsigned → all_digits (take b unsigned) ≡ true
    → Marked (take (1 + (length signed_text - length unsigned) + b) text) (is_negative signed_text) (take b unsigned)
marked [] signed_text unsigned b some mark at_signed at_unsigned more within digits = absurd (let none : 0 < 0 = some in omega arith)
marked (y ∷ ys) signed_text unsigned b some mark at_signed at_unsigned more within digits =
    let k = length signed_text - length unsigned in
    let all : 1 + k + b ≡ suc (k + b) = omega arith in
    let behind : signed_text ≡ ys = at_signed in
    let u : unsigned ≡ without_sign ys = at_unsigned ∙ ap without_sign behind in
    let n : k + b ≡ length ys - length (without_sign ys) + b = ap₂ (λ (s u : List ℕ). length s - length u + b) behind u in
    let s : Signed ys b = signed ys b more (subst (λ (xs : List ℕ). b ≤ length xs) u within) in
    let z = take (length ys - length (without_sign ys) + b) ys in
    let front : take (1 + k + b) (y ∷ ys) ≡ y ∷ z = ap (λ (j : ℕ). take j (y ∷ ys)) all ∙ ap (λ (j : ℕ). y ∷ take j ys) n in
    let rest : without_sign z ≡ take b unsigned = s.unsigned ∙ ap (λ (xs : List ℕ). take b xs) (sym u) in
    let minus : is_negative z ≡ is_negative signed_text = s.negative ∙ ap is_negative (sym behind) in
    let size : length (take b unsigned) ≡ b = length-take-le b unsigned within in
    let good : (nat_lt 0 (length (take b unsigned)) && all_digits (take b unsigned)) ≡ true = grind (arith, nat_tests) in
    let bytes : list_all is_number_byte (take b (without_sign ys)) ≡ true =
    subst (λ (xs : List ℕ). list_all is_number_byte (take b xs) ≡ true) u (mantissa_bytes (take b unsigned) (digits_bytes (take b unsigned) digits)) in
    record {
      mark = subst BeginsMarked (sym front) mark;
      bytes = rw front (rw (mark_is y mark) (s.bytes bytes));
      parts = ap (λ (xs : List ℕ). exponent_of (behind_mark xs)) front ∙ (ap₂ exponent_by rest minus ∙ rw good refl);
    }
