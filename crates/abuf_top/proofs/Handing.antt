-- When a run hands its frame back, and what it leaves unwritten.
use Rattle.std.proofs.Common.{◌≡◌, ◌⊎◌, inl, inr, ℕ, Bool, true, false, Option, None, Result, Ok, Err, IfSome, refl, sym, ap, subst, ◌∙◌, true≢false, arith}
use Rattle.std.specs.Prelude.{IsSome, IsNone, ◌↔◌}
use Rattle.std.specs.Io.KnownBytes.{Keeps}
use Rattle.abuf_frame.specs.Closing.{Ended}
use Rattle.abuf_top.specs.Promise.{GoesWithFrame}
use Rattle.abuf_top.specs.Ending.{HasFrame, HandsBack, WritesLast, Concludes, Tells, handed_back}
use Rattle.abuf_io.specs.Sinks.{Taken}
use Rattle.abuf_top.specs.Refusals.{refusal_status}
use Rattle.abuf_top.specs.Status.{status_number}
use Rattle.abuf_top.specs.declared.status.Status.{Status}
use Rattle.abuf_top.specs.declared.status.Status.TheVariants as ended
use Rattle.abuf_top.specs.declared.stop.Refusal.{Refusal}
use Rattle.abuf_top.specs.declared.stop.Refusal.TheVariants as refusal
use Rattle.abuf_top.specs.declared.stop.Stop.{Stop}
use Rattle.abuf_top.specs.declared.stop.Stop.TheVariants as stop
use Rattle.abuf_top.specs.declared.top.Ran.{Ran}

-- A frame that is there isn't missing.
not_both : (closed : Option Ended) → IsSome closed → IsNone closed → ⊥
not_both closed is isnt = true≢false (sym is ∙ isnt)

-- With a status that a frame goes with
handed : (number : ℕ) (one : Bool) (closed : Option Ended) → GoesWithFrame number → HasFrame one closed → IsSome closed ↔ (GoesWithFrame number × one ≡ true)
handed number true closed goes has = (λ is. (goes, refl), λ both. has)
handed number false closed goes has = (λ is. absurd (not_both closed is has), λ both. absurd (true≢false (sym both.1)))

-- and with another.
withheld : (number : ℕ) (one : Bool) → (GoesWithFrame number → ⊥) → IsSome {T = Ended} None ↔ (GoesWithFrame number × one ≡ true)
withheld number one stays = (λ is. absurd (not_both None is refl), λ both. absurd (stays both.0))

-- No other number is one of those of a frame.
none_of : (number : ℕ) → (number ≡ 0 → ⊥) → (number ≡ 5 → ⊥) → (number ≡ 7 → ⊥) → GoesWithFrame number → ⊥
none_of number a b c (inl e) = a e
none_of number a b c (inr (inl e)) = b e
none_of number a b c (inr (inr e)) = c e

-- What a frame has to be, under each status.
abbrev Fits : Status → Bool → Option Ended → Type 0
Fits ended.Written one closed = HasFrame one closed
Fits ended.PoolFull one closed = HasFrame one closed
Fits ended.WriteFault one closed = HasFrame one closed
Fits _ one closed = Unit {0}

-- With which statuses a fitting frame is handed back.
under : (s : Status) (one : Bool) (closed : Option Ended) → Fits s one closed → IsSome (handed_back s closed) ↔ (GoesWithFrame (status_number s) × one ≡ true)
under ended.Written one closed has = handed 0 one closed (inl refl) has
under ended.Words one closed has = withheld 2 one (none_of 2 (λ e. absurd (omega arith)) (λ e. absurd (omega arith)) (λ e. absurd (omega arith)))
under ended.Scene one closed has = withheld 3 one (none_of 3 (λ e. absurd (omega arith)) (λ e. absurd (omega arith)) (λ e. absurd (omega arith)))
under ended.Library one closed has = withheld 4 one (none_of 4 (λ e. absurd (omega arith)) (λ e. absurd (omega arith)) (λ e. absurd (omega arith)))
under ended.PoolFull one closed has = handed 5 one closed (inr (inl refl)) has
under ended.ReadFault one closed has = withheld 6 one (none_of 6 (λ e. absurd (omega arith)) (λ e. absurd (omega arith)) (λ e. absurd (omega arith)))
under ended.WriteFault one closed has = handed 7 one closed (inr (inr refl)) has
under ended.Memory one closed has = withheld 8 one (none_of 8 (λ e. absurd (omega arith)) (λ e. absurd (omega arith)) (λ e. absurd (omega arith)))
under ended.Path one closed has = withheld 9 one (none_of 9 (λ e. absurd (omega arith)) (λ e. absurd (omega arith)) (λ e. absurd (omega arith)))

-- Any frame fits a refusal, which hands none back.
fits_refusal : (r : Refusal) (one : Bool) (closed : Option Ended) → Fits (refusal_status r) one closed
fits_refusal refusal.Words one closed = tt
fits_refusal (refusal.Value option) one closed = tt
fits_refusal refusal.PathMissing one closed = tt
fits_refusal refusal.PathTooLong one closed = tt
fits_refusal (refusal.PathLine line why) one closed = tt
fits_refusal refusal.SceneTooLong one closed = tt
fits_refusal (refusal.SceneLine line why) one closed = tt
fits_refusal (refusal.UnknownMaterial line) one closed = tt
fits_refusal (refusal.LibraryMissing k) one closed = tt
fits_refusal (refusal.LibraryTooLong k) one closed = tt
fits_refusal (refusal.LibraryLine k line why) one closed = tt

module _ (one : Bool) (closed : Option Ended) (is : Status) (err : Taken) where
  -- What fits a status fits one that is the same.
  of_status : (s : Status) → is ≡ s → Fits s one closed → Fits is one closed
  of_status s e h = subst (λ (x : Status). Fits x one closed) (sym e) h

  -- The frame of a run fits its status.
  fits : (r : Result (Unit {0}) Stop) → Tells r is err → HandsBack one r closed → Fits is one closed
  fits (Ok _) said has = of_status ended.Written said.0 has
  fits (Err (stop.Refused r)) (inl said) has = of_status (refusal_status r) said.0 (fits_refusal r one closed)
  fits (Err (stop.Refused r)) (inr said) has = of_status ended.Memory said.0 tt
  fits (Err (stop.PoolFull pool)) (inl said) has = of_status ended.PoolFull said.0 has
  fits (Err (stop.PoolFull pool)) (inr said) has = of_status ended.Memory said.0 tt
  fits (Err stop.ReadFault) said has = of_status ended.ReadFault said.0 tt
  fits (Err stop.WriteFault) said has = of_status ended.WriteFault said.0 has
  fits (Err stop.Memory) said has = of_status ended.Memory said.0 tt

-- With which statuses the frame is handed back.
pub hands : (one : Bool) (r : Result (Unit {0}) Stop) (closed : Option Ended) (ran : Ran) (err : Taken)
    → Concludes r closed ran err → HandsBack one r closed → IsSome ran.closed ↔ (GoesWithFrame ran.status × one ≡ true)
hands one r closed ran err c has =
    subst (λ (x : Option Ended). IsSome x ↔ (GoesWithFrame ran.status × one ≡ true)) (sym c.frame)
    (subst (λ (n : ℕ). IsSome (handed_back c.is closed) ↔ (GoesWithFrame n × one ≡ true)) (sym c.has_number)
    (under c.is one closed (fits one closed c.is err r c.tells has)))

-- What holds of a frame holds of it where it is handed back.
still : (s : Status) (closed : Option Ended) (P : Ended → Type 0) → IfSome closed P → IfSome (handed_back s closed) P
still ended.Written closed P h = h
still ended.PoolFull closed P h = h
still ended.WriteFault closed P h = h
still _ closed P h = tt

-- What holds of the frame holds of the one that is handed back.
pub frame : (r : Result (Unit {0}) Stop) (closed : Option Ended) (ran : Ran) (err : Taken) (P : Ended → Type 0)
    → Concludes r closed ran err → IfSome closed P → IfSome ran.closed P
frame r closed ran err P c h = subst (λ (x : Option Ended). IfSome x P) (sym c.frame) (still c.is closed P h)

-- Nothing is written where the status is neither that of the end nor that of a fault of writing.
pub unwritten : (r : Result (Unit {0}) Stop) (closed : Option Ended) (ran : Ran) (out err : Taken)
    → Concludes r closed ran err → WritesLast out r → ((ran.status ≡ 0) ⊎ (ran.status ≡ 7) → ⊥) → Keeps out.old out.new
unwritten r closed ran out err c last neither = go r c.tells last where
  go : (r : Result (Unit {0}) Stop) → Tells r c.is err → WritesLast out r → Keeps out.old out.new
  go (Ok _) said h = absurd (neither (inl (c.has_number ∙ ap status_number said.0)))
  go (Err stop.WriteFault) said h = absurd (neither (inr (c.has_number ∙ ap status_number said.0)))
  go _ said h = h
