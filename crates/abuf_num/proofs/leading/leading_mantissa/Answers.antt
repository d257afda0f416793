use Rattle.std.proofs.Common.{◌≡◌, ◌∙◌, ◌+◌, ◌-◌, length-append, ◌∷◌, ◌<◌, ◌≤◌, ◌^◌, ℕ, refl, List, Some, sym, ap, take, drop, length, true, subst, arith}
use Rattle.std.proofs.lemmas.List.{length-take-le}
use Rattle.abuf_num.specs.Decimal.{all_digits, mantissa_of, cut_by, is_point, spelled_from}
use Rattle.abuf_num.proofs.Powers.{pow_le}
use Rattle.abuf_num.proofs.Notation.{digits_alone, digits_and_point, digits_bytes, point_bytes, seam, to_end}
use Rattle.abuf_num.proofs.leading.leading_mantissa.Goals as goal

pub returns-else-whole-eq0-clause-mantissa : goal.returns-else-whole-eq0-clause-mantissa
returns-else-whole-eq0-clause-mantissa c =
    let whole = c.leading_digits-whole in
    let size = length-take-le whole.result.count c.args.text.now whole.ensures.count in
    let small : whole.result.value < 10 ^ (0 + whole.result.count) = whole.ensures.small in
    record {
      some = omega (arith, size);
      bytes = digits_bytes (take whole.result.count c.args.text.now) whole.ensures.digits;
      parts = digits_alone (take whole.result.count c.args.text.now) whole.ensures.digits (omega (arith, size));
      whole = whole.ensures.digits;
      fraction = refl;
      few = omega (arith, size, whole.ensures.few);
      value = whole.ensures.value;
      small = omega (arith, small, pow_le (0 + whole.result.count) 18 (omega arith));
    }

pub returns-clause-mantissa : goal.returns-clause-mantissa
returns-clause-mantissa c =
    let text = c.args.text.now in
    let whole = c.leading_digits-whole in
    let fraction = c.leading_digits-fraction in
    let a = whole.result.count in
    let b = fraction.result.count in
    let within : a < length text = omega arith in
    let cut = to_end (a + 1) text in
    let first = length-take-le a text whole.ensures.count in
    let inside : b ≤ length (drop (a + 1) text) = subst (λ (xs : List ℕ). b ≤ length xs) cut fraction.ensures.count in
    let second = length-take-le b (drop (a + 1) text) inside in
    let all = seam text a b 46 within c.if-text-whole-ne46.false in
    let digits = subst (λ (xs : List ℕ). all_digits (take b xs) ≡ true) cut fraction.ensures.digits in
    let small : fraction.result.value < 10 ^ (a + b) = fraction.ensures.small in
    let size : length (take b (take (length text - (a + 1)) (drop (a + 1) text))) ≡ b = ap (λ (xs : List ℕ). length (take b xs)) cut ∙ second in
    record {
      some = rw all (omega (arith, length-append (take a text) (46 ∷ take b (drop (a + 1) text))));
      bytes = rw all (point_bytes (take a text) (take b (drop (a + 1) text)) whole.ensures.digits digits);
      parts =
          ap (λ (xs : List ℕ). mantissa_of (cut_by is_point xs)) all
          ∙ digits_and_point (take a text) (take b (drop (a + 1) text)) whole.ensures.digits digits (omega (arith, first, second))
          ∙ ap (λ (xs : List ℕ). Some (take a text, take b xs)) (sym cut);
      whole = whole.ensures.digits;
      fraction = fraction.ensures.digits;
      few = omega (arith, first, size);
      value = fraction.ensures.value ∙ ap (λ (n : ℕ). spelled_from n (take b (take (length text - (a + 1)) (drop (a + 1) text)))) whole.ensures.value;
      small = omega (arith, small, pow_le (a + b) 18 (omega arith));
    }
