-- From how a run ends to what it answers.
use Rattle.std.proofs.Common.{◌≡◌, ◌⊎◌, inl, inr, ◌≤◌, ℕ, List, [], length, take, Option, Some, None, option_map, unwrap_or, Result, Ok, Err, IfSome, refl, sym, ap, ◌∙◌, subst, append-nil, arith}
use Rattle.std.specs.List.{concat}
use Rattle.std.specs.Io.KnownBytes.{Appends, Keeps}
use Rattle.std.proofs.lemmas.List.{take_all}
use Rattle.abuf_frame.specs.Closing.{Ended}
use Rattle.abuf_cli.specs.Job.{Job}
use Rattle.abuf_cli.specs.declared.job.WordFault.{WordFault}
use Rattle.abuf_top.specs.Ending.{Ends, Concludes, Tells}
use Rattle.abuf_top.specs.Outside.{Outside, Failed, ReadFailed}
use Rattle.abuf_io.specs.Sinks.{Taken}
use Rattle.abuf_top.specs.Prepared.{StopsAt}
use Rattle.abuf_top.specs.Refusals.{refusal_status}
use Rattle.abuf_top.specs.Status.{status_number}
use Rattle.abuf_top.specs.Stopped.{HasCause}
use Rattle.abuf_top.specs.Table.{TookSome, Refuses, Row, IsAnswer, IsComplete, Follows, most_whole, last_status}
use Rattle.abuf_top.specs.Verdict.{Verdict, Refused, final_verdict}
use Rattle.abuf_top.specs.declared.status.Status.{Status}
use Rattle.abuf_top.specs.declared.status.Status.TheVariants as ended
use Rattle.abuf_top.specs.declared.stop.Refusal.{Refusal}
use Rattle.abuf_top.specs.declared.stop.Refusal.TheVariants as refusal
use Rattle.abuf_top.specs.declared.stop.Stop.{Stop}
use Rattle.abuf_top.specs.declared.stop.Stop.TheVariants as stop
use Rattle.abuf_top.specs.declared.task.Task.{Task}
use Rattle.abuf_top.specs.declared.top.Ran.{Ran}

-- A sink that took nothing took the empty list.
pub took-nothing : (a b : Option (List ℕ)) → Keeps a b → Appends a b []
took-nothing None b k = tt
took-nothing (Some xs) None k = absurd k
took-nothing (Some xs) (Some ys) k = k ∙ sym (append-nil xs)

-- none of the outputs, joined, are no bytes
took-none : (outputs : List (List ℕ)) → concat (take 0 outputs) ≡ []
took-none outputs = refl

-- That is none of the outputs of any verdict.
pub took-none-of : (out : Taken) (v : Verdict) → Keeps out.old out.new → TookSome out v
took-none-of out v k = (0, omega arith, subst (λ (bytes : List ℕ). Appends out.old out.new bytes) (sym (took-none v.outputs)) (took-nothing out.old out.new k))

-- A sink that took all outputs before a refusal took as many as there may be.
took-all-of : (out : Taken) (v : Verdict) (by : Refused) → v.refusal ≡ Some by → Appends out.old out.new (concat v.outputs) → TookSome out v
took-all-of out v by e all =
    let n : ℕ = length v.outputs in
    let most : most_whole v.refusal n ≡ n = ap (λ (r : Option Refused). most_whole r n) e in
    let few : n ≤ n = omega arith in
    (n, omega (arith, most), subst (λ (outputs : List (List ℕ)). Appends out.old out.new (concat outputs)) (sym (take_all n v.outputs few)) all)

-- More causes may be named.
pub weaker : (v : Verdict) (rose : Type 0) (out : Taken) (r : Result (Unit {0}) Stop) → Ends v ⊥ out r → Ends v rose out r
weaker v rose out (Err stop.ReadFault) h = absurd h.0
weaker v rose out _ h = h

-- What a run found that stops before it does a task: the refusal of its stop, or else what is told.
abbrev pub found_by : Option (Result Task Refusal) → Stop → Result Task Refusal
found_by line (stop.Refused r) = Err r
found_by line _ = unwrap_or line (Err refusal.Words)

-- It is what is told.
pub found-told : (line : Option (Result Task Refusal)) (rose : Type 0) (s : Stop) → IfSome line (λ l. StopsAt l rose s) → IfSome line (λ l. l ≡ found_by line s)
found-told None rose s h = tt
found-told (Some l) rose (stop.Refused r) h = h
found-told (Some l) rose (stop.PoolFull pool) h = refl
found-told (Some l) rose stop.ReadFault h = refl
found-told (Some l) rose stop.WriteFault h = refl
found-told (Some l) rose stop.Memory h = refl

-- Such a run ends by its stop.
pub stopped : (line : Option (Result Task Refusal)) (words : Result Job WordFault) (rose : Type 0) (out : Taken) (s : Stop)
    → Keeps out.old out.new → HasCause words rose s → Ends (final_verdict (found_by line s)) rose out (Err s)
stopped line words rose out (stop.Refused r) k cause = (refl, k)
stopped line words rose out (stop.PoolFull pool) k cause = absurd cause
stopped line words rose out stop.ReadFault k cause = (cause.0, k)
stopped line words rose out stop.WriteFault k cause = absurd cause
stopped line words rose out stop.Memory k cause = took-none-of out (final_verdict (unwrap_or line (Err refusal.Words))) k

-- The row of a refusal.
refusal_row : (v : Verdict) (o : Outside) (r : Refusal) → Refuses v (refusal_status r) o.out o.err → Row v (refusal_status r) o
refusal_row v o refusal.Words h = h
refusal_row v o (refusal.Value option) h = h
refusal_row v o refusal.PathMissing h = h
refusal_row v o refusal.PathTooLong h = h
refusal_row v o (refusal.PathLine line why) h = h
refusal_row v o refusal.SceneTooLong h = h
refusal_row v o (refusal.SceneLine line why) h = h
refusal_row v o (refusal.UnknownMaterial line) h = h
refusal_row v o (refusal.LibraryMissing k) h = h
refusal_row v o (refusal.LibraryTooLong k) h = h
refusal_row v o (refusal.LibraryLine k line why) h = h

module _ (v : Verdict) (o : Outside) (ran : Ran) (is : Status) (number : ran.status ≡ status_number is) where
  -- The answer under a status that is known.
  under : (s : Status) → is ≡ s → Row v s o → IsAnswer v ran.status o
  under s e row = record { is = s; has_number = number ∙ ap status_number e; row = row }

  -- How a run ends and what it says are a row of the table.
  at_end : (r : Result (Unit {0}) Stop) → Ends v (ReadFailed o.source o.shelf) o.out r → Tells r is o.err → IsAnswer v ran.status o
  at_end (Ok _) h said = under ended.Written said.0 (record { output = h; silent = said.1 })
  at_end (Err (stop.Refused r)) h (inl said) =
      under (refusal_status r) said.0 (refusal_row v o r (record { says = record { stop = stop.Refused r; has_status = refl; refusal = h.0; text = said.1 }; unwritten = h.1 }))
  at_end (Err (stop.Refused r)) h (inr said) = under ended.Memory said.0 (record { output = took-none-of o.out v h.1; text = said.1 })
  at_end (Err (stop.PoolFull pool)) h (inl said) =
      under ended.PoolFull said.0 (record { says = record { stop = stop.PoolFull pool; has_status = refl; refusal = h.0; text = said.1 }; output = h.1 })
  at_end (Err (stop.PoolFull pool)) h (inr said) = under ended.Memory said.0 (record { output = took-all-of o.out v _ h.0 h.1; text = said.1 })
  at_end (Err stop.ReadFault) h said = under ended.ReadFault said.0 (record { rose = h.0; unwritten = h.1; text = said.1 })
  at_end (Err stop.WriteFault) h said = under ended.WriteFault said.0 (record { output = h.0; rose = h.1; text = said.1 })
  at_end (Err stop.Memory) h said = under ended.Memory said.0 (record { output = h; text = said.1 })

-- The answer is a row of the table.
pub answered : (v : Verdict) (o : Outside) (r : Result (Unit {0}) Stop) (closed : Option Ended) (ran : Ran)
    → Ends v (ReadFailed o.source o.shelf) o.out r → Concludes r closed ran o.err → IsAnswer v ran.status o
answered v o r closed ran h c = at_end v o ran c.is c.has_number r h c.tells

-- And that row is the verdict's where nothing fails outside.
follows : (v : Verdict) (number : ℕ) (o : Outside) → IsAnswer v number o → Follows v number o
follows v number o a = λ sound writes. go a.is a.has_number a.row sound writes where
  -- The number of the verdict's own status.
  same : (s : Status) (r : Option Refused) → number ≡ status_number s → last_status r ≡ s → number ≡ status_number (last_status r)
  same s r n e = n ∙ sym (ap status_number e)

  go : (s : Status) → number ≡ status_number s → Row v s o → (ReadFailed o.source o.shelf → ⊥) → (v.outputs ≡ []) ⊎ (Failed o.out → ⊥)
      → (number ≡ status_number (last_status v.refusal)) ⊎ (number ≡ 8)
  go ended.Written n row sound writes = inl (same ended.Written v.refusal n (ap last_status row.output.0))
  go ended.Words n row sound writes = inl (same ended.Words v.refusal n (ap last_status row.says.refusal))
  go ended.Scene n row sound writes = inl (same ended.Scene v.refusal n (ap last_status row.says.refusal))
  go ended.Library n row sound writes = inl (same ended.Library v.refusal n (ap last_status row.says.refusal))
  go ended.PoolFull n row sound writes = inl (same ended.PoolFull v.refusal n (ap last_status row.says.refusal))
  go ended.ReadFault n row sound writes = absurd (sound row.rose)
  go ended.WriteFault n row sound (inl none) = absurd (row.output.0 none)
  go ended.WriteFault n row sound (inr stood) = absurd (stood row.rose)
  go ended.Memory n row sound writes = inr n
  go ended.Path n row sound writes = inl (same ended.Path v.refusal n (ap last_status row.says.refusal))

-- The same where the verdict is told.
pub complete : (line : Option (Result Task Refusal)) (found : Result Task Refusal) (number : ℕ) (o : Outside)
    → IfSome line (λ l. l ≡ found) → IsAnswer (final_verdict found) number o → IsComplete (option_map final_verdict line) number o
complete None found number o told a = tt
complete (Some l) found number o told a = follows (final_verdict l) number o (subst (λ (x : Result Task Refusal). IsAnswer (final_verdict x) number o) (sym told) a)
