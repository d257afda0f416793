-- The table of statuses: what a run's answer says of the verdict and of what it wrote.
use Rattle.std.specs.Prelude.{◌≡◌, ◌⊎◌, ◌≤◌, ◌++◌, ◌∷◌, ◌-◌, [], ℕ, List, length, take, Option, Some, None, IfSome, codes}
use Rattle.std.specs.List.{concat}
use Rattle.std.specs.Io.KnownBytes.{Appends, Keeps}
use Rattle.abuf_top.specs.Outside.{Outside, Failed, ReadFailed}
use Rattle.abuf_io.specs.Sinks.{Taken}
use Rattle.abuf_top.specs.Refusals.{stop_status, stop_text}
use Rattle.abuf_top.specs.Status.{status_number}
use Rattle.abuf_top.specs.Verdict.{Verdict, Refused}
use Rattle.abuf_top.specs.declared.status.Status.{Status}
use Rattle.abuf_top.specs.declared.status.Status.TheVariants as ended
use Rattle.abuf_top.specs.declared.stop.Stop.{Stop}

-- The sink took a prefix of the bytes.
abbrev pub TookPart : Taken → List ℕ → Type 0
TookPart sink bytes = (count : ℕ) × Appends sink.old sink.new (take count bytes)

-- The sink took a prefix of the text and its line feed, and all of it where it didn't fail.
pub record TookLine (sink : Taken) (text : List ℕ) : Type 0 where
  pub part : TookPart sink (text ++ 10 ∷ [])
  pub whole : (Failed sink → ⊥) → Appends sink.old sink.new (text ++ 10 ∷ [])

-- The sink took all outputs, one after another.
abbrev pub TookAll : Taken → List (List ℕ) → Type 0
TookAll sink outputs = Appends sink.old sink.new (concat outputs)

-- How many outputs are written at most where the run doesn't come to its end: before a refusal all of them, else all but the
-- last.
abbrev pub most_whole : Option Refused → ℕ → ℕ
most_whole None n = n - 1
most_whole (Some refused) n = n

-- The sink took some of the outputs, each of them whole.
abbrev pub TookSome : Taken → Verdict → Type 0
TookSome sink v = (count : ℕ) × (count ≤ most_whole v.refusal (length v.outputs)) × Appends sink.old sink.new (concat (take count v.outputs))

-- The message of a stop that has this status, which is the verdict's refusal.
pub record Says (v : Verdict) (is : Status) (err : Taken) : Type 0 where
  pub stop : Stop
  pub has_status : stop_status stop ≡ is
  pub refusal : v.refusal ≡ Some (record { status = is; text = stop_text stop })
  pub text : TookLine err (stop_text stop)

-- Everything that the verdict writes was written, and no message.
pub record Wrote (v : Verdict) (out err : Taken) : Type 0 where
  pub output : (v.refusal ≡ None) × TookAll out v.outputs
  pub silent : Keeps err.old err.new

-- The verdict refuses with this status, before anything is written.
pub record Refuses (v : Verdict) (is : Status) (out err : Taken) : Type 0 where
  pub says : Says v is err
  pub unwritten : Keeps out.old out.new

-- The verdict refuses by a full pool, after its outputs.
pub record IsFull (v : Verdict) (out err : Taken) : Type 0 where
  pub says : Says v ended.PoolFull err
  pub output : TookAll out v.outputs

-- Reading failed: a count of faults rose.
pub record FailedToRead (o : Outside) : Type 0 where
  pub rose : ReadFailed o.source o.shelf
  pub unwritten : Keeps o.out.old o.out.new
  pub text : TookLine o.err (codes "read fault")

-- Writing failed on the way: the verdict writes something, and a prefix of it was written.
pub record FailedToWrite (v : Verdict) (out err : Taken) : Type 0 where
  pub output : (v.outputs ≡ [] → ⊥) × TookPart out (concat v.outputs)
  pub rose : Failed out
  pub text : TookLine err (codes "write fault")

-- Memory ran out before the last write.
pub record GaveUp (v : Verdict) (out err : Taken) : Type 0 where
  pub output : TookSome out v
  pub text : TookLine err (codes "no memory")

-- The table.
abbrev pub Row : Verdict → Status → Outside → Type 0
Row v ended.Written o = Wrote v o.out o.err
Row v ended.Words o = Refuses v ended.Words o.out o.err
Row v ended.Scene o = Refuses v ended.Scene o.out o.err
Row v ended.Library o = Refuses v ended.Library o.out o.err
Row v ended.PoolFull o = IsFull v o.out o.err
Row v ended.ReadFault o = FailedToRead o
Row v ended.WriteFault o = FailedToWrite v o.out o.err
Row v ended.Memory o = GaveUp v o.out o.err
Row v ended.Path o = Refuses v ended.Path o.out o.err

-- The answer is a row of the table, under its number.
pub record IsAnswer (v : Verdict) (number : ℕ) (o : Outside) : Type 0 where
  pub is : Status
  pub has_number : number ≡ status_number is
  pub row : Row v is o

-- The status with which a run of this verdict ends.
abbrev pub last_status : Option Refused → Status
last_status None = ended.Written
last_status (Some refused) = refused.status

-- Where no count of faults rose, the answer is that of the verdict, or memory ran out. Faults of writing count only where
-- something is to be written.
abbrev pub Follows : Verdict → ℕ → Outside → Type 0
Follows v number o =
    (ReadFailed o.source o.shelf → ⊥) → (v.outputs ≡ []) ⊎ (Failed o.out → ⊥)
    → (number ≡ status_number (last_status v.refusal)) ⊎ (number ≡ 8)

abbrev pub IsComplete : Option Verdict → ℕ → Outside → Type 0
IsComplete verdict number o = IfSome verdict (λ v. Follows v number o)
