use Rattle.std.proofs.Common.{◌≡◌, ◌++◌, ℕ, List, map, Option, Some, option_map, Result, IfSome, sym, ap, ap₂, subst, ◌∙◌, arith, ⊎_elim, inr}
use Rattle.std.specs.List.{concat}
use Rattle.std.specs.String.{string_bytes}
use Rattle.abuf_io.specs.Causes.{Rose}
use Rattle.abuf_io.specs.Fetching.{held}
use Rattle.abuf_io.specs.Memory.{sink_faults, steady_left, steady_pairs}
use Rattle.abuf_top.specs.Verdict.{final_verdict, verdict}
use Rattle.abuf_top.specs.declared.stop.Refusal.{Refusal}
use Rattle.abuf_top.specs.declared.task.Task.{Task}
use Rattle.abuf_uses.proofs.Told.{follows, told, zero_wrote}
use Rattle.abuf_uses.proofs.running.carry_out.Goals as goal

pub returns : goal.returns
returns g c =
    let ran = c.run-ran.ensures in
    let texts : List (List ℕ) = map string_bytes c.args.words.now in
    let scene : List ℕ = steady_left c.new-source.result in
    let pairs : List (List ℕ × List ℕ) = steady_pairs c.new-shelf.result in
    let t = told texts scene (held pairs) in
    let same : t.0 ≡ ran.found = subst (λ (o : Option (Result Task Refusal)). IfSome o (λ u. u ≡ ran.found)) t.1 ran.as_told in
    let is_due : verdict texts (Some scene) (Some (held pairs)) ≡ Some (final_verdict ran.found) =
    ap (option_map final_verdict) t.1 ∙ ap (λ (u : Result Task Refusal). Some (final_verdict u)) same in
    record {
      due = final_verdict ran.found;
      is_due =
          ap₂ (λ (s : List ℕ) (p : List (List ℕ × List ℕ)). verdict texts (Some s) (Some (held p))) (sym c.new-source.ensures) (sym c.new-shelf.ensures.pairs)
          ∙ is_due;
      written = λ zero.
          let w = zero_wrote _ _ _ ran.answer zero in
          let none = c.in_ok-output.ensures.0 in
          let quiet = c.in_ok-messages.ensures.0 in
          (w.output.0, w.output.1 ∙ ap (λ (xs : List ℕ). xs ++ concat (final_verdict ran.found).outputs) none, w.silent ∙ quiet);
      complete = λ sound.
          let none = c.in_ok-output.ensures.3 in
          follows _ _ _ _ ran.answer is_due ran.complete (λ r. ⊎_elim (λ (h : Rose 0 0). absurd (omega (arith, h))) (λ (h : Rose 0 0). absurd (omega (arith, h))) r)
          (inr (λ (h : Rose (sink_faults c.in_ok-output.output) (sink_faults c.run-ran.new.out)). absurd (omega (arith, h, none, sound))));
    }
