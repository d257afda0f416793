-- From what is read to what is to be done.
use Rattle.std.proofs.Common.{◌≡◌, ◌≤◌, ◌+◌, ◌⊎◌, inl, inr, ℕ, Bool, true, false, true≢false, List, Option, Some, None, option_map, option_and_then, Result, Ok, Err, IfSome, IfOk, IfErr, refl, sym, ap, subst, length, [], arith}
use Rattle.std.specs.Prelude.{IsErr}
use Rattle.abuf_num.specs.declared.limits.TheConstants.{MAX_BYTES}
use Rattle.abuf_io.specs.Causes.{Rose}
use Rattle.abuf_mtl.specs.StandsFor.{StandsFor}
use Rattle.abuf_obj.specs.Scene.{libraries}
use Rattle.abuf_scene.specs.declared.triangles.Triangle.{Triangle}
use Rattle.abuf_sequence.specs.declared.path.Shot.{Shot}
use Rattle.abuf_cli.specs.Job.{Job}
use Rattle.abuf_top.specs.Fetches.{CallsAtMost, Demand, PathIsRefused, path_fetches, scene_demand, scene_fetches, sequence_demand, sequence_fetches}
use Rattle.abuf_top.specs.Libraries.{Holdings, told_by}
use Rattle.abuf_top.specs.Outside.{SourceChange, ShelfChange, told, ReadFailed}
use Rattle.abuf_top.specs.Paths.{path_verdict}
use Rattle.abuf_top.specs.Prepared.{Gives, Loads, StopsAt, IsTaskOf}
use Rattle.abuf_top.specs.Reads.{LoadsBy, PreparesBy, IsUncalled, TakesAtMost}
use Rattle.abuf_top.specs.Stopped.{HasReadCause, HasCause, IsAfterWords, IsOfPath, IsOfScene, StopsByPath}
use Rattle.abuf_top.specs.Verdict.{images_verdict, shots_verdict, sequence_verdict, material_verdict, scene_read}
use Rattle.abuf_top.specs.declared.loaded.Loaded.{Loaded}
use Rattle.abuf_top.specs.declared.stop.Refusal.{Refusal}
use Rattle.abuf_top.specs.declared.stop.Refusal.TheVariants as refusal
use Rattle.abuf_top.specs.declared.stop.Stop.{Stop}
use Rattle.abuf_top.specs.declared.stop.Stop.TheVariants as stop
use Rattle.abuf_top.specs.declared.task.Task.{Task}
use Rattle.abuf_top.proofs.Telling.{stops-weaker}

-- A refusal of a scene or a library comes after the words,
after_words : (r : Refusal) → IsOfScene r → IsAfterWords r
after_words refusal.Words h = absurd h
after_words (refusal.Value option) h = absurd h
after_words refusal.PathMissing h = absurd h
after_words refusal.PathTooLong h = absurd h
after_words (refusal.PathLine line why) h = absurd h
after_words _ h = tt

-- and is none of the path.
of_scene : (r : Refusal) → IsOfScene r → IsOfPath r → ⊥
of_scene refusal.Words h p = absurd h
of_scene (refusal.Value option) h p = absurd h
of_scene refusal.PathMissing h p = absurd h
of_scene refusal.PathTooLong h p = absurd h
of_scene (refusal.PathLine line why) h p = absurd h
of_scene _ h p = absurd p

-- A scene and its libraries don't stop a run by a path.
not_by_path : (rose : Type 0) (s : Stop) → HasReadCause rose s → StopsByPath s → ⊥
not_by_path rose (stop.Refused r) h p = of_scene r h p
not_by_path rose _ h p = absurd p

-- More causes may be named.
cause_weaker : (job : Job) (few more : Type 0) (s : Stop) → (few → more) → HasReadCause few s → HasCause (Ok job) more s
cause_weaker job few more (stop.Refused r) f h = after_words r h
cause_weaker job few more stop.ReadFault f h = (f h, refl)
cause_weaker job few more _ f h = h

gives_weaker : (line : Result Task Refusal) (few more : Type 0) (r : Result Task Stop) → (few → more) → Gives line few r → Gives line more r
gives_weaker line few more (Ok t) f h = h
gives_weaker line few more (Err s) f h = stops-weaker line few more s f h

-- What is made of a scene: one drawing, or images.
module _ (f : Result (List Triangle) Refusal → Result Task Refusal) where
  gives_all : (line : Option (Result (List Triangle) Refusal)) (rose : Type 0) (loaded : Loaded) (r : Result Task Stop) → IfSome line (λ l. Loads l rose (Ok loaded))
      → ((names : List (List ℕ)) → StandsFor names loaded.materials → Gives (f (material_verdict loaded.obj names)) ⊥ r) → IfSome (option_map f line) (λ l. Gives l rose r)
  gives_all None rose loaded r h made = tt
  gives_all (Some line) rose loaded r h made =
      subst (λ (l : Result (List Triangle) Refusal). Gives (f l) rose r) (sym h.2) (gives_weaker (f (material_verdict loaded.obj h.0)) ⊥ rose r (λ e. absurd e) (made h.0 h.1))

  -- What stops the loading stops the run, where a refusal of the scene is one of the task.
  stops_all : ((r : Refusal) → f (Err r) ≡ Err r) → (line : Option (Result (List Triangle) Refusal)) (rose : Type 0) (s : Stop)
      → IfSome line (λ l. Loads l rose (Err s)) → IfSome (option_map f line) (λ l. Gives l rose (Err s))
  stops_all keeps None rose s h = tt
  stops_all keeps (Some line) rose (stop.Refused q) h = subst (λ (l : Result (List Triangle) Refusal). f l ≡ Err q) (sym h) (keeps q)
  stops_all keeps (Some line) rose (stop.PoolFull pool) h = h
  stops_all keeps (Some line) rose stop.ReadFault h = h
  stops_all keeps (Some line) rose stop.WriteFault h = h
  stops_all keeps (Some line) rose stop.Memory h = h

  module _ (job : Job) (verdict : Option (List ℕ) → Option Holdings → Option (Result (List Triangle) Refusal)) (demand : Option (List ℕ) → Option Holdings → Demand)
      (from : SourceChange) (by : ShelfChange) where
    abbrev By : Result Task Stop → Type 0
    By = PreparesBy (λ left held. option_map f (verdict left held)) demand (Ok job) from by

    pub made : (loaded : Loaded) (r : Result Task Stop) → LoadsBy verdict demand from by (Ok loaded)
        → ((names : List (List ℕ)) → StandsFor names loaded.materials → Gives (f (material_verdict loaded.obj names)) ⊥ r) → IfErr r (HasReadCause ⊥) → IfOk r (IsTaskOf (Ok job)) → By r
    made loaded (Ok t) h told_of cause own = record {
      as_told = gives_all (verdict from.left_old (told by)) (ReadFailed from by) loaded (Ok t) h.as_told told_of;
      cause = tt;
      path = tt;
      words_own = own;
      calls = h.calls;
    }
    made loaded (Err s) h told_of cause own = record {
      as_told = gives_all (verdict from.left_old (told by)) (ReadFailed from by) loaded (Err s) h.as_told told_of;
      cause = cause_weaker job ⊥ (ReadFailed from by) s (λ e. absurd e) cause;
      path = λ p. absurd (not_by_path ⊥ s cause p);
      words_own = tt;
      calls = h.calls;
    }

    pub unmade : ((r : Refusal) → f (Err r) ≡ Err r) → (s : Stop) → LoadsBy verdict demand from by (Err s) → By (Err s)
    unmade keeps s h = record {
      as_told = stops_all keeps (verdict from.left_old (told by)) (ReadFailed from by) s h.as_told;
      cause = cause_weaker job (ReadFailed from by) (ReadFailed from by) s (λ e. e) h.cause;
      path = λ p. absurd (not_by_path (ReadFailed from by) s h.cause p);
      words_own = tt;
      calls = h.calls;
    }

module _ (job : Job) where
  -- A cause that isn't of the source is one of both.
  weaker : (few more : Type 0) (s : Stop) → (few → more) → HasCause (Ok job) few s → HasCause (Ok job) more s
  weaker few more stop.ReadFault f h = (f h.0, h.1)
  weaker few more _ f h = h

  weaker_of : (few more : Type 0) (r : Result Task Stop) → (few → more) → IfErr r (HasCause (Ok job) few) → IfErr r (HasCause (Ok job) more)
  weaker_of few more (Ok t) f h = tt
  weaker_of few more (Err s) f h = weaker few more s f h

  -- A refused path as what is to be done.
  abbrev again : Result (List Shot) Refusal → Result Task Refusal
  again (Ok shots) = images_verdict job shots (Ok [])
  again (Err refusal) = Err refusal

  abbrev is_ok : Result (List Shot) Refusal → Bool
  is_ok (Ok shots) = true
  is_ok (Err refusal) = false

  -- A path that stops a run stops it before its scene is read.
  stops_before : (scene : Option (List ℕ)) (shelf : Option Holdings) (p : Result (List Shot) Refusal) (few more : Type 0) (s : Stop) → (few → more)
      → StopsAt p few s → IfSome (shots_verdict job scene shelf p) (λ line. StopsAt line more s)
  stops_before scene shelf (Err r) few more (stop.Refused q) f h = ap again h
  stops_before scene shelf (Err r) few more (stop.PoolFull pool) f h = h
  stops_before scene shelf (Err r) few more stop.ReadFault f h = f h
  stops_before scene shelf (Err r) few more stop.WriteFault f h = h
  stops_before scene shelf (Err r) few more stop.Memory f h = h
  stops_before scene shelf (Ok shots) few more s f h = sound (option_map (images_verdict job shots) (scene_read scene shelf)) s h where
    -- A sound path stops a run only by a fault of reading, or where memory runs out.
    sound : (line : Option (Result Task Refusal)) (s : Stop) → StopsAt {T = List Shot} (Ok shots) few s → IfSome line (λ l. StopsAt l more s)
    sound None s h = tt
    sound (Some line) (stop.Refused q) h = absurd (true≢false (ap is_ok h))
    sound (Some line) (stop.PoolFull pool) h = h
    sound (Some line) stop.ReadFault h = f h
    sound (Some line) stop.WriteFault h = h
    sound (Some line) stop.Memory h = h

  path_stops : (name : List ℕ) (scene : Option (List ℕ)) (tells : Bool) (held : Holdings) (few more : Type 0) (s : Stop) → (few → more)
      → (tells ≡ true → StopsAt (path_verdict (held name)) few s) → IfSome (sequence_verdict job name scene (told_by tells held)) (λ line. StopsAt line more s)
  path_stops name scene false held few more s f h = tt
  path_stops name scene true held few more s f h = stops_before scene (Some held) (path_verdict (held name)) few more s f (h refl)

  -- The images of a sound path.
  sound_path : (shots : List Shot) (name : List ℕ) (scene : Option (List ℕ)) (tells : Bool) (held : Holdings) (P : Result Task Refusal → Type 0)
      → (tells ≡ true → path_verdict (held name) ≡ Ok shots)
      → IfSome (option_map (images_verdict job shots) (scene_read scene (told_by tells held))) P → IfSome (sequence_verdict job name scene (told_by tells held)) P
  sound_path shots name scene false held P sound h = tt
  sound_path shots name scene true held P sound h = subst (λ (p : Result (List Shot) Refusal). IfSome (shots_verdict job scene (Some held) p) P) (sym (sound refl)) h

all_weaker : (line : Option (Result Task Refusal)) (few more : Type 0) (r : Result Task Stop) → (few → more) → IfSome line (λ l. Gives l few r) → IfSome line (λ l. Gives l more r)
all_weaker None few more r f h = tt
all_weaker (Some line) few more r f h = gives_weaker line few more r f h

-- One call for a path is as many as are told,
calls_path : (p : Result (List Shot) Refusal) (later : Option ℕ) (a b c d : ℕ) → b ≤ a + 1 → IfSome (path_fetches p later) (CallsAtMost a b c d)
calls_path (Err r) later a b c d one = record { most = one; none = λ z. absurd (omega arith) }
calls_path (Ok shots) None a b c d one = tt
calls_path (Ok shots) (Some n) a b c d one = record { most = omega (arith, one); none = λ z. absurd (omega arith) }

-- for the path alone,
calls_before : (name : List ℕ) (scene : Option (List ℕ)) (tells : Bool) (held : Holdings) (a b c d : ℕ)
    → b ≤ a + 1 → IfSome (sequence_fetches name scene (told_by tells held)) (CallsAtMost a b c d)
calls_before name scene false held a b c d one = tt
calls_before name scene true held a b c d one = calls_path (path_verdict (held name)) _ a b c d one

most_before : (scene : Option (List ℕ)) (a b : ℕ) → b ≤ a + 1 → IfSome (option_map (λ (bytes : List ℕ). 1 + length (libraries bytes)) scene) (λ n. b ≤ a + n)
most_before None a b one = tt
most_before (Some bytes) a b one = omega (arith, one)

-- and for the path and the libraries.
calls_more : (later : Option ℕ) (a m b e c d : ℕ) → m ≤ a + 1 → IfSome later (CallsAtMost m b e d) → IfSome (option_map (λ (n : ℕ). 1 + n) later) (CallsAtMost a b c d)
calls_more None a m b e c d one h = tt
calls_more (Some n) a m b e c d one h = record { most = omega (arith, one, h.most); none = λ z. absurd (omega arith) }

calls_after : (name : List ℕ) (scene : Option (List ℕ)) (tells : Bool) (held : Holdings) (shots : List Shot) (a m b e c d : ℕ)
    → (tells ≡ true → path_verdict (held name) ≡ Ok shots) → m ≤ a + 1
    → IfSome (option_and_then (scene_fetches (told_by tells held)) scene) (CallsAtMost m b e d) → IfSome (sequence_fetches name scene (told_by tells held)) (CallsAtMost a b c d)
calls_after name scene false held shots a m b e c d sound one h = tt
calls_after name scene true held shots a m b e c d sound one h =
    subst (λ (p : Result (List Shot) Refusal). IfSome (path_fetches p (option_and_then (scene_fetches (Some held)) scene)) (CallsAtMost a b c d)) (sym (sound refl))
    (calls_more (option_and_then (scene_fetches (Some held)) scene) a m b e c d one h)

most_after : (scene : Option (List ℕ)) (a m b : ℕ) → m ≤ a + 1 → IfSome (option_map (λ (bytes : List ℕ). length (libraries bytes)) scene) (λ n. b ≤ m + n)
    → IfSome (option_map (λ (bytes : List ℕ). 1 + length (libraries bytes)) scene) (λ n. b ≤ a + n)
most_after None a m b one h = tt
most_after (Some bytes) a m b one h = omega (arith, one, h)

-- A sound path isn't refused.
isnt_refused : (name : List ℕ) (tells : Bool) (held : Holdings) (shots : List Shot) → (tells ≡ true → path_verdict (held name) ≡ Ok shots) → PathIsRefused name (told_by tells held) → ⊥
isnt_refused name false held shots sound h = h
isnt_refused name true held shots sound h = subst (λ (p : Result (List Shot) Refusal). IsErr p → ⊥) (sym (sound refl)) (λ e. no e) h where
  no : IsErr {T = List Shot} {E = Refusal} (Ok shots) → ⊥
  no e = absurd (true≢false (sym e))

-- A count rose since the path was read.
abbrev Since : SourceChange → ℕ → ShelfChange → Type 0
Since from faults by = Rose from.faults_old from.faults_new ⊎ Rose faults by.faults_new

module _ (job : Job) (name : List ℕ) (from : SourceChange) (by : ShelfChange) where
  -- The path stops the run,
  pub stopped_by_path : (s : Stop) → IsUncalled from → TakesAtMost (MAX_BYTES + 1) from → by.calls_new ≤ by.calls_old + 1
      → (by.tells ≡ true → StopsAt (path_verdict (by.holds name)) (Rose by.faults_old by.faults_new) s) → HasCause (Ok job) (Rose by.faults_old by.faults_new) s
      → PreparesBy (sequence_verdict job name) (sequence_demand name) (Ok job) from by (Err s)
  stopped_by_path s still taken one h cause = record {
    as_told = path_stops job name from.left_old by.tells by.holds (Rose by.faults_old by.faults_new) (ReadFailed from by) s (λ e. inr e) h;
    cause = weaker job (Rose by.faults_old by.faults_new) (ReadFailed from by) s (λ e. inr e) cause;
    path = λ _. still;
    words_own = tt;
    calls = record {
      source = λ _. still;
      taken = taken;
      calls = calls_before name from.left_old by.tells by.holds _ _ _ _ one;
      most = most_before from.left_old _ _ one;
    };
  }

  -- or its images are prepared, by a shelf that was asked for it.
  pub after_path : (tells : Bool) (held : Holdings) (calls faults : ℕ) (shots : List Shot) (r : Result Task Stop)
      → told_by tells held ≡ told_by by.tells by.holds → calls ≤ by.calls_old + 1 → by.faults_old ≤ faults → (by.tells ≡ true → path_verdict (by.holds name) ≡ Ok shots)
      → PreparesBy (λ left shelf. option_map (images_verdict job shots) (scene_read left shelf)) scene_demand (Ok job)
      from (record { tells = tells; holds = held; calls_old = calls; calls_new = by.calls_new; faults_old = faults; faults_new = by.faults_new }) r
      → PreparesBy (sequence_verdict job name) (sequence_demand name) (Ok job) from by r
  after_path tells held calls faults shots r same one later sound h = record {
    as_told = sound_path job shots name from.left_old by.tells by.holds (λ l. Gives l (ReadFailed from by) r) sound
        (all_weaker (option_map (images_verdict job shots) (scene_read from.left_old (told by))) (Since from faults by) (ReadFailed from by) r up
        (subst (λ (shelf : Option Holdings). IfSome (option_map (images_verdict job shots) (scene_read from.left_old shelf)) (λ l. Gives l (Since from faults by) r)) same h.as_told));
    cause = weaker_of job (Since from faults by) (ReadFailed from by) r up h.cause;
    path = h.path;
    words_own = h.words_own;
    calls = record {
      source = λ refused. absurd (isnt_refused name by.tells by.holds shots sound refused);
      taken = h.calls.taken;
      calls = calls_after name from.left_old by.tells by.holds shots by.calls_old calls by.calls_new faults by.faults_old by.faults_new sound one
          (subst (λ (shelf : Option Holdings). IfSome (option_and_then (scene_fetches shelf) from.left_old) (CallsAtMost calls by.calls_new faults by.faults_new)) same h.calls.calls);
      most = most_after from.left_old by.calls_old calls by.calls_new one h.calls.most;
    };
  } where
    up : Since from faults by → ReadFailed from by
    up (inl e) = inl e
    up (inr e) = inr (omega (arith, later, e))
