-- What a run promises, from what its parts do.
use Rattle.std.proofs.Common.{◌≡◌, ℕ, ◌⊎◌, inl, inr, Bool, true, false, true≢false, List, Option, Some, None, Result, Ok, Err, IfSome, IfErr, refl, sym, ap, ◌∙◌, subst, arith}
use Rattle.std.specs.Prelude.{IsSome, IsOk, ◌↔◌}
use Rattle.abuf_frame.specs.Closing.{Ended}
use Rattle.abuf_cli.specs.Jobs.{job}
use Rattle.abuf_cli.specs.Job.{Job}
use Rattle.abuf_cli.specs.declared.job.Command.{Command}
use Rattle.abuf_cli.specs.declared.job.Command.TheVariants as command
use Rattle.abuf_cli.specs.declared.job.WordFault.{WordFault}
use Rattle.abuf_top.specs.Ending.{Ends, WritesLast, HandsBack, Concludes, Announces, IsFrameOf}
use Rattle.abuf_io.specs.Sinks.{Taken}
use Rattle.abuf_top.specs.Refusals.{refusal_status}
use Rattle.abuf_top.specs.Status.{status_number}
use Rattle.abuf_top.specs.Promise.{GoesWithFrame, HasSizeOf, WordsDecide, has_frame, command_has_frame, IsFrameOfTask, IsRun}
use Rattle.abuf_top.specs.Fetches.{demand}
use Rattle.abuf_top.specs.Image.{Drawing, has_one_frame}
use Rattle.abuf_top.specs.Images.{Images}
use Rattle.abuf_top.specs.Outside.{Outside, ReadFailed, told}
use Rattle.abuf_top.specs.Prepared.{AskForSequence, IsSequence, IsTaskOf}
use Rattle.abuf_top.specs.Stopped.{HasCause, RefusesFor, IsOfWords, IsAfterWords, IsOfPath, IsOfDrawing, StopsByPath}
use Rattle.abuf_top.specs.Reads.{PreparesBy}
use Rattle.abuf_top.specs.Verdict.{task, final_verdict, pool_verdict, pools_verdict}
use Rattle.abuf_top.specs.declared.task.Task.{Task}
use Rattle.abuf_top.specs.declared.task.Task.TheVariants.{Draw, Sequence}
use Rattle.abuf_top.specs.declared.stop.Refusal.{Refusal}
use Rattle.abuf_top.specs.declared.stop.Refusal.TheVariants as refusal
use Rattle.abuf_top.specs.declared.stop.Stop.{Stop}
use Rattle.abuf_top.specs.declared.stop.Stop.TheVariants as stop
use Rattle.abuf_top.specs.declared.top.Ran.{Ran}
use Rattle.abuf_top.proofs.Allowing.{found-allowed}
use Rattle.abuf_top.proofs.Answering.{weaker, found_by, found-told, stopped, answered, complete}
use Rattle.abuf_top.proofs.Handing.{hands, frame, unwritten}
use Rattle.std.specs.Io.KnownBytes.{Keeps}

-- The frame of a drawing has the size that the words say.
sizes : (words : Result Job WordFault) (d : Drawing) (closed : Option Ended) → words ≡ Ok d.job → IfSome closed (IsFrameOf d) → IfSome closed (HasSizeOf words)
sizes words d None is h = tt
sizes words d (Some c) is h = subst (λ (w : Result Job WordFault). HasSizeOf w c) (sym is) (h.pixels_are, h.nodes_are)

-- A sequence has no frame.
no-frame : (c : Command) (one : Bool) → IsSequence c → false ≡ command_has_frame c one
no-frame (command.Draw what) one more = absurd more
no-frame (command.Sequence name) one more = refl

without-frame : (words : Result Job WordFault) → AskForSequence words → false ≡ has_frame words
without-frame (Ok job) more = no-frame job.command (has_one_frame job) more
without-frame (Err why) more = absurd more

-- With which numbers a run ends once it draws: not with that of the words.
drew_decides : (r : Result (Unit {0}) Stop) (closed : Option Ended) (ran : Ran) (err : Taken) → IfErr r IsOfDrawing → Concludes r closed ran err → ran.status ≡ 2 → ⊥
drew_decides (Ok _) closed ran err stops c two = absurd (omega (arith, two, c.has_number ∙ ap status_number c.tells.0))
drew_decides (Err (stop.Refused r)) closed ran err stops c two = absurd stops
drew_decides (Err (stop.PoolFull pool)) closed ran err stops c two = of c.tells where
  of : Announces (stop.PoolFull pool) c.is err ⊎ Announces stop.Memory c.is err → ⊥
  of (inl said) = absurd (omega (arith, two, c.has_number ∙ ap status_number said.0))
  of (inr said) = absurd (omega (arith, two, c.has_number ∙ ap status_number said.0))
drew_decides (Err stop.ReadFault) closed ran err stops c two = absurd stops
drew_decides (Err stop.WriteFault) closed ran err stops c two = absurd (omega (arith, two, c.has_number ∙ ap status_number c.tells.0))
drew_decides (Err stop.Memory) closed ran err stops c two = absurd (omega (arith, two, c.has_number ∙ ap status_number c.tells.0))

-- Nor with that of a path.
drew_by_no_path : (r : Result (Unit {0}) Stop) (closed : Option Ended) (ran : Ran) (err : Taken) → IfErr r IsOfDrawing → Concludes r closed ran err → ran.status ≡ 9 → ⊥
drew_by_no_path (Ok _) closed ran err stops c nine = absurd (omega (arith, nine, c.has_number ∙ ap status_number c.tells.0))
drew_by_no_path (Err (stop.Refused r)) closed ran err stops c nine = absurd stops
drew_by_no_path (Err (stop.PoolFull pool)) closed ran err stops c nine = of c.tells where
  of : Announces (stop.PoolFull pool) c.is err ⊎ Announces stop.Memory c.is err → ⊥
  of (inl said) = absurd (omega (arith, nine, c.has_number ∙ ap status_number said.0))
  of (inr said) = absurd (omega (arith, nine, c.has_number ∙ ap status_number said.0))
drew_by_no_path (Err stop.ReadFault) closed ran err stops c nine = absurd stops
drew_by_no_path (Err stop.WriteFault) closed ran err stops c nine = absurd (omega (arith, nine, c.has_number ∙ ap status_number c.tells.0))
drew_by_no_path (Err stop.Memory) closed ran err stops c nine = absurd (omega (arith, nine, c.has_number ∙ ap status_number c.tells.0))

-- The status of a path is that of its refusals alone,
of_path : (r : Refusal) → status_number (refusal_status r) ≡ 9 → IsOfPath r
of_path refusal.PathMissing nine = tt
of_path refusal.PathTooLong nine = tt
of_path (refusal.PathLine line why) nine = tt
of_path _ nine = absurd (omega (arith, nine))

-- so that a run ends with it only where they stop it.
by_path : (words : Result Job WordFault) (rose : Type 0) (s : Stop) (closed : Option Ended) (ran : Ran) (err : Taken)
    → HasCause words rose s → Concludes (Err s) closed ran err → ran.status ≡ 9 → StopsByPath s
by_path words rose (stop.Refused r) closed ran err cause c nine = of c.tells where
  of : Announces (stop.Refused r) c.is err ⊎ Announces stop.Memory c.is err → IsOfPath r
  of (inl said) = of_path r (sym (c.has_number ∙ ap status_number said.0) ∙ nine)
  of (inr said) = absurd (omega (arith, nine, c.has_number ∙ ap status_number said.0))
by_path words rose (stop.PoolFull pool) closed ran err cause c nine = absurd cause
by_path words rose stop.ReadFault closed ran err cause c nine = absurd (omega (arith, nine, c.has_number ∙ ap status_number c.tells.0))
by_path words rose stop.WriteFault closed ran err cause c nine = absurd cause
by_path words rose stop.Memory closed ran err cause c nine = absurd (omega (arith, nine, c.has_number ∙ ap status_number c.tells.0))

sequence_decides : (words : Result Job WordFault) (number : ℕ) → AskForSequence words → (number ≡ 2 → ⊥) → WordsDecide words number
sequence_decides (Ok job) number more other = other
sequence_decides (Err why) number more other = absurd more

-- The number of a refusal.
after_words : (r : Refusal) → IsAfterWords r → status_number (refusal_status r) ≡ 2 → ⊥
after_words refusal.Words h two = absurd h
after_words (refusal.Value option) h two = absurd h
after_words _ h two = absurd (omega (arith, two))

-- And that of a refusal of the words.
of_words : (r : Refusal) → IsOfWords r → status_number (refusal_status r) ≡ 2
of_words refusal.Words h = refl
of_words (refusal.Value option) h = refl
of_words _ h = absurd h

-- Where memory runs out, the status isn't that of the words.
memory_decides : (words : Result Job WordFault) (number : ℕ) → number ≡ 8 → WordsDecide words number
memory_decides (Ok job) number eight = λ two. absurd (omega (arith, eight, two))
memory_decides (Err why) number eight = inr eight

-- A refusal has that status exactly where it is one of the words.
refusal_decides : (words : Result Job WordFault) (number : ℕ) (r : Refusal) → RefusesFor words r → number ≡ status_number (refusal_status r) → WordsDecide words number
refusal_decides (Ok job) number r h e = λ two. after_words r h (sym e ∙ two)
refusal_decides (Err why) number r h e = inl (e ∙ of_words r h)

-- A fault of reading comes only where the words give a job.
fault_decides : (words : Result Job WordFault) (number : ℕ) → IsOk words → number ≡ 6 → WordsDecide words number
fault_decides (Ok job) number h e = λ two. absurd (omega (arith, e, two))
fault_decides (Err why) number h e = absurd (true≢false (sym h))

-- And with which it ends before.
stop_decides : (words : Result Job WordFault) (rose : Type 0) (s : Stop) (closed : Option Ended) (ran : Ran) (err : Taken)
    → HasCause words rose s → Concludes (Err s) closed ran err → WordsDecide words ran.status
stop_decides words rose (stop.Refused r) closed ran err cause c = of c.tells where
  of : Announces (stop.Refused r) c.is err ⊎ Announces stop.Memory c.is err → WordsDecide words ran.status
  of (inl said) = refusal_decides words ran.status r cause (c.has_number ∙ ap status_number said.0)
  of (inr said) = memory_decides words ran.status (c.has_number ∙ ap status_number said.0)
stop_decides words rose (stop.PoolFull pool) closed ran err cause c = absurd cause
stop_decides words rose stop.ReadFault closed ran err cause c = fault_decides words ran.status cause.1 (c.has_number ∙ ap status_number c.tells.0)
stop_decides words rose stop.WriteFault closed ran err cause c = absurd cause
stop_decides words rose stop.Memory closed ran err cause c = memory_decides words ran.status (c.has_number ∙ ap status_number c.tells.0)

module _ (words : List (List ℕ)) (o : Outside) where
  -- What was read for a run.
  abbrev Prepared : Result Task Stop → Type 0
  Prepared = PreparesBy (task words) (demand (job words)) (job words) o.source o.shelf

  -- A run that drew.
  pub run_drew : (t : Task) (d : Drawing) → t ≡ Draw d → (r : Result (Unit {0}) Stop) (closed : Option Ended) (ran : Ran)
      → Prepared (Ok t) → Ends (pool_verdict d) ⊥ o.out r → WritesLast o.out r → IfSome closed (IsFrameOf d) → HandsBack (has_one_frame d.job) r closed → IfErr r IsOfDrawing
      → Concludes r closed ran o.err → IsRun words ran o
  run_drew t d t_is r closed ran from ends last frames handed stops c =
      let line = subst (λ (x : Task). IfSome (task words o.source.left_old (told o.shelf)) (λ l. l ≡ Ok x)) t_is from.as_told in
      let is = subst (IsTaskOf (job words)) t_is from.words_own in
      let answer = answered (pool_verdict d) o r closed ran (weaker (pool_verdict d) (ReadFailed o.source o.shelf) o.out r ends) c in
      let one : has_one_frame d.job ≡ has_frame (job words) = ap (λ (c : Command). command_has_frame c (has_one_frame d.job)) (sym is.1) ∙ ap has_frame (sym is.0) in
      record {
        found = Ok (Draw d);
        as_told = line;
        allowed = is;
        answer = answer;
        complete = complete (task words o.source.left_old (told o.shelf)) (Ok (Draw d)) ran.status o line answer;
        two = subst (λ (w : Result Job WordFault). WordsDecide w ran.status) (sym is.0) (drew_decides r closed ran o.err stops c);
        nine = λ nine. absurd (drew_by_no_path r closed ran o.err stops c nine);
        unwritten = λ once. unwritten r closed ran o.out o.err c last;
        handed = subst (λ (b : Bool). IsSome ran.closed ↔ (GoesWithFrame ran.status × b ≡ true)) one (hands (has_one_frame d.job) r closed ran o.err c handed);
        closed = frame r closed ran o.err (IsFrameOf d) c frames;
        size = frame r closed ran o.err _ c (sizes (job words) d closed is.0 frames);
        calls = from.calls;
      }

  -- Where there is no frame, none is handed back.
  no-frame-back : (r : Result (Unit {0}) Stop) → HandsBack false r None
  no-frame-back (Ok _) = refl
  no-frame-back (Err (stop.Refused r)) = refl
  no-frame-back (Err (stop.PoolFull pool)) = refl
  no-frame-back (Err stop.ReadFault) = refl
  no-frame-back (Err stop.WriteFault) = refl
  no-frame-back (Err stop.Memory) = refl

  -- A run that wrote the images of a sequence.
  pub run_wrote : (t : Task) (i : Images) → t ≡ Sequence i → (r : Result (Unit {0}) Stop) (closed : Option Ended) (ran : Ran)
      → Prepared (Ok t) → Ends (pools_verdict i) ⊥ o.out r → IfErr r IsOfDrawing → closed ≡ None
      → Concludes r closed ran o.err → IsRun words ran o
  run_wrote t i t_is r closed ran from ends stops none c =
      let line = subst (λ (x : Task). IfSome (task words o.source.left_old (told o.shelf)) (λ l. l ≡ Ok x)) t_is from.as_told in
      let is = subst (IsTaskOf (job words)) t_is from.words_own in
      let answer = answered (pools_verdict i) o r closed ran (weaker (pools_verdict i) (ReadFailed o.source o.shelf) o.out r ends) c in
      let back : HandsBack false r closed = subst (λ (x : Option Ended). HandsBack false r x) (sym none) (no-frame-back r) in
      record {
        found = Ok (Sequence i);
        as_told = line;
        allowed = is;
        answer = answer;
        complete = complete (task words o.source.left_old (told o.shelf)) (Ok (Sequence i)) ran.status o line answer;
        two = sequence_decides (job words) ran.status is.0 (drew_decides r closed ran o.err stops c);
        nine = λ nine. absurd (drew_by_no_path r closed ran o.err stops c nine);
        unwritten = λ once. absurd (once is.0);
        handed = subst (λ (b : Bool). IsSome ran.closed ↔ (GoesWithFrame ran.status × b ≡ true)) (without-frame (job words) is.0) (hands false r closed ran o.err c back);
        closed = frame r closed ran o.err (IsFrameOfTask (Ok (Sequence i))) c (subst (λ (x : Option Ended). IfSome x (IsFrameOfTask (Ok (Sequence i)))) (sym none) tt);
        size = frame r closed ran o.err _ c (subst (λ (x : Option Ended). IfSome x (HasSizeOf (job words))) (sym none) tt);
        calls = from.calls;
      }

  -- A run that stops before it draws hands none back,
  handed-none : (one : Bool) (s : Stop) → HasCause (job words) (ReadFailed o.source o.shelf) s → HandsBack {T = Unit {0}} one (Err s) None
  handed-none one (stop.Refused r) cause = refl
  handed-none one (stop.PoolFull pool) cause = absurd cause
  handed-none one stop.ReadFault cause = refl
  handed-none one stop.WriteFault cause = absurd cause
  handed-none one stop.Memory cause = refl

  -- and leaves the output as it was.
  unwritten-none : (s : Stop) → Keeps o.out.old o.out.new → HasCause (job words) (ReadFailed o.source o.shelf) s → WritesLast o.out (Err s)
  unwritten-none (stop.PoolFull pool) k cause = absurd cause
  unwritten-none stop.WriteFault k cause = absurd cause
  unwritten-none _ k cause = k

  -- A run that stopped before that.
  pub run_stopped : (s : Stop) (closed : Option Ended) (ran : Ran)
      → Prepared (Err s) → Keeps o.out.old o.out.new → closed ≡ None
      → Concludes (Err s) closed ran o.err → IsRun words ran o
  run_stopped s closed ran from kept none c =
      let cause = from.cause in
      let all = task words o.source.left_old (told o.shelf) in
      let found = found_by all s in
      let is_told = found-told all (ReadFailed o.source o.shelf) s from.as_told in
      let answer = answered (final_verdict found) o (Err s) closed ran (stopped all (job words) (ReadFailed o.source o.shelf) o.out s kept cause) c in
      let back : HandsBack {T = Unit {0}} (has_frame (job words)) (Err s) closed = subst (λ (x : Option Ended). HandsBack {T = Unit {0}} (has_frame (job words)) (Err s) x) (sym none) (handed-none (has_frame (job words)) s cause) in
      record {
        found = found;
        as_told = is_told;
        allowed = found-allowed words o.source.left_old (told o.shelf) s;
        answer = answer;
        complete = complete (task words o.source.left_old (told o.shelf)) (found) ran.status o is_told answer;
        two = stop_decides (job words) (ReadFailed o.source o.shelf) s closed ran o.err cause c;
        nine = λ nine. from.path (by_path (job words) (ReadFailed o.source o.shelf) s closed ran o.err cause c nine);
        unwritten = λ once. unwritten (Err s) closed ran o.out o.err c (unwritten-none s kept cause);
        handed = hands (has_frame (job words)) (Err s) closed ran o.err c back;
        closed = frame (Err s) closed ran o.err (IsFrameOfTask found) c (subst (λ (x : Option Ended). IfSome x (IsFrameOfTask found)) (sym none) tt);
        size = frame (Err s) closed ran o.err _ c (subst (λ (x : Option Ended). IfSome x (HasSizeOf (job words))) (sym none) tt);
        calls = from.calls;
      }
