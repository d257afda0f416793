-- What has been read of the lines of a path so far.
use Rattle.std.proofs.Common.{◌≡◌, ◌≤◌, ◌<◌, ◌+◌, ◌++◌, ◌∷◌, [], ℕ, List, length, option_to_list, Option, None, Some, Result, Ok, Err, refl, sym, ap, ◌∙◌, subst, append_assoc, append-nil, length-append, arith}
use Rattle.std.specs.List.{All}
use Rattle.std.specs.Prelude.{IfSome}
use Rattle.std.proofs.lemmas.List.Concat.{flat_map-append}
use Rattle.std.proofs.lemmas.List.Elements.{All-append, All-cons}
use Rattle.abuf_text.specs.Lines.{lines}
use Rattle.abuf_text.specs.Statement.{statement}
use Rattle.abuf_sequence.specs.declared.path.Shot.{Shot}
use Rattle.abuf_sequence.specs.declared.path.PathWhy.{PathWhy}
use Rattle.abuf_sequence.specs.declared.path.PathFault.TheVariants as fault
use Rattle.abuf_sequence.specs.Paths.{said, shots_by, shots_on, why, fault_from, shots_or, path}

-- These lines follow those that were read, and together they are all; none of those was refused, and they have these shots.
pub record HasRead (all after : List (List ℕ)) (number : ℕ) (shots : List Shot) : Type 0 where
  pub before : List (List ℕ)
  pub together : before ++ after ≡ all
  pub count : number ≡ length before + 1
  pub fault : fault_from before after ≡ fault_from [] all
  pub shots_are : shots ≡ shots_on before

pub started : (all : List (List ℕ)) → HasRead all all 1 []
started all = record { before = []; together = refl; count = refl; fault = refl; shots_are = refl }

module _ (all after : List (List ℕ)) (number : ℕ) (shots : List Shot) (line : List ℕ) (read : HasRead all (line ∷ after) number shots) where
  -- What the next line says is asked with so many shots above it.
  here : (n : ℕ) → n ≡ length shots → why (length (shots_on read.before)) line ≡ why n line
  here n is = ap (λ (m : ℕ). why m line) (sym (is ∙ ap length read.shots_are))

  -- If it isn't refused, it has been read too.
  pub read_more : (n : ℕ) → n ≡ length shots → (shot : Option Shot) → said (statement line) ≡ Ok shot → why n line ≡ None → HasRead all after (number + 1) (shots ++ option_to_list shot)
  read_more n is shot says good = record {
    before = read.before ++ line ∷ [];
    together = append_assoc read.before (line ∷ []) after ∙ read.together;
    count = omega (arith, read.count, length-append read.before (line ∷ []));
    fault = (let none : why (length (shots_on read.before)) line ≡ None = here n is ∙ good in rw none at read.fault);
    shots_are =
        ap (λ (ss : List Shot). ss ++ option_to_list shot) read.shots_are
        ∙ (ap (λ (s : Result (Option Shot) PathWhy). shots_on read.before ++ shots_by s) (sym says)
        ∙ (ap (λ (ss : List Shot). shots_on read.before ++ ss) (sym (append-nil (shots_by (said (statement line)))))
        ∙ sym (flat_map-append (λ (l : List ℕ). shots_by (said (statement l))) read.before (line ∷ []))));
  }

  -- If it is, it is the first.
  pub refused : (n : ℕ) → n ≡ length shots → (cause : PathWhy) → why n line ≡ Some cause → fault_from [] all ≡ Some (number, cause)
  refused n is cause bad =
      let first : why (length (shots_on read.before)) line ≡ Some cause = here n is ∙ bad in
      sym read.fault ∙ rw first (rw (← read.count) refl)

-- The path that is refused there, and the one that has been read to its end.
pub faulty : (bytes : List ℕ) (number : ℕ) (cause : PathWhy) → fault_from [] (lines bytes) ≡ Some (number, cause) → path bytes ≡ Err (fault.Line number cause)
unfolding path
faulty bytes number cause is = ap (λ (f : Option (ℕ × PathWhy)). shots_or f (shots_on (lines bytes))) is

pub read_all : (bytes : List ℕ) (number : ℕ) (shots : List Shot) → HasRead (lines bytes) [] number shots → path bytes ≡ Ok shots
unfolding path
read_all bytes number shots read =
    let whole : read.before ≡ lines bytes = sym (append-nil read.before) ∙ read.together in
    ap (λ (f : Option (ℕ × PathWhy)). shots_or f (shots_on (lines bytes))) (sym read.fault)
    ∙ ap Ok (ap shots_on (sym whole) ∙ sym read.shots_are)

-- One more shot keeps to what all keep to, and there is room for it.
pub All-some : (P : Shot → Type 0) (shots : List Shot) (shot : Option Shot) → All P shots → IfSome shot P → All P (shots ++ option_to_list shot)
All-some P shots None each one = subst (All P) (sym (append-nil shots)) each
All-some P shots (Some shot) each one = All-append P shots (shot ∷ []) each (All-cons P shot [] one (λ k d below. absurd (omega arith)))

pub few_more : (shots : List Shot) (shot : Option Shot) → length shots ≤ 4096 → IfSome shot (λ _. length shots < 4096) → length (shots ++ option_to_list shot) ≤ 4096
few_more shots None few room = omega (arith, length-append shots [], few)
few_more shots (Some shot) few room = omega (arith, length-append shots (shot ∷ []), room)
