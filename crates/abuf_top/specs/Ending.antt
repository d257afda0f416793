-- What the drawing leaves, and how a run ends.
use Rattle.std.specs.Prelude.{◌≡◌, ◌⊎◌, Bool, true, false, ℕ, List, [], Option, Some, None, IsSome, IsNone, Result, Ok, Err}
use Rattle.std.specs.List.{concat}
use Rattle.std.specs.Io.KnownBytes.{Keeps}
use Rattle.abuf_frame.specs.Closing.{Ended}
use Rattle.abuf_picture.specs.Picture as picture
use Rattle.abuf_io.specs.Sinks.{Taken}
use Rattle.abuf_top.specs.Outside.{Failed}
use Rattle.abuf_top.specs.Refusals.{stop_status, stop_text}
use Rattle.abuf_top.specs.Status.{status_number}
use Rattle.abuf_top.specs.Image.{Drawing, region_of}
use Rattle.abuf_top.specs.Verdict.{Verdict, write}
use Rattle.abuf_top.specs.Table.{TookAll, TookPart, TookSome, TookLine}
use Rattle.abuf_top.specs.declared.status.Status.{Status}
use Rattle.abuf_top.specs.declared.status.Status.TheVariants as ended
use Rattle.abuf_top.specs.declared.stop.Stop.{Stop}
use Rattle.abuf_top.specs.declared.stop.Stop.TheVariants as stop
use Rattle.abuf_top.specs.declared.top.Ran.{Ran}

-- The closed frame into which a drawing was drawn: it has a list for each pixel of the image, the job's nodes, and as many
-- entries as there are fragments. Where these aren't more than the nodes, its lists are those of the fragments. Where they are, the
-- pool was full, and the lists are those of all fragments but as many as find no node.
abbrev pub IsFrameOf : Drawing → Ended → Type 0
IsFrameOf d closed = picture.IsFrameOf d.triangles d.job.pattern (region_of d.job) d.job.nodes closed

-- The verdict's refusal is that of this stop.
abbrev pub RefusesBy : Verdict → Stop → Type 0
RefusesBy v s = v.refusal ≡ Some (record { status = stop_status s; text = stop_text s })

-- The bytes that are to be written, or how a drawing stops before that: by a full pool, or because memory runs out.
abbrev pub Produces : Verdict → Result (List ℕ) Stop → Type 0
Produces verdict (Ok bytes) = verdict ≡ write bytes
Produces verdict (Err (stop.PoolFull pool)) = (verdict.outputs ≡ []) × RefusesBy verdict (stop.PoolFull pool)
Produces verdict (Err stop.Memory) = Unit {0}
Produces verdict _ = ⊥

-- How a run of this verdict ends, before it says so: by its end, by the first refusal, by a full pool, by a fault of reading or
-- writing, which comes only where a count rose, or because memory runs out.
abbrev pub Ends : Verdict → Type 0 → Taken → Result (Unit {0}) Stop → Type 0
Ends v rose out (Ok _) = (v.refusal ≡ None) × TookAll out v.outputs
Ends v rose out (Err (stop.Refused r)) = RefusesBy v (stop.Refused r) × Keeps out.old out.new
Ends v rose out (Err (stop.PoolFull pool)) = RefusesBy v (stop.PoolFull pool) × TookAll out v.outputs
Ends v rose out (Err stop.ReadFault) = rose × Keeps out.old out.new
Ends v rose out (Err stop.WriteFault) = ((v.outputs ≡ [] → ⊥) × TookPart out (concat v.outputs)) × Failed out
Ends v rose out (Err stop.Memory) = TookSome out v

-- Nothing is written but by a write that is begun after all else: at the end, or where it fails.
abbrev pub WritesLast : Taken → Result (Unit {0}) Stop → Type 0
WritesLast out (Ok _) = Unit {0}
WritesLast out (Err stop.WriteFault) = Unit {0}
WritesLast out _ = Keeps out.old out.new

-- The frame is there, where there is one for the whole image.
abbrev pub HasFrame : Bool → Option Ended → Type 0
HasFrame true closed = IsSome closed
HasFrame false closed = IsNone closed

-- The frame is handed back where the output was written, where writing it failed, and where the pool was full.
abbrev pub HandsBack : {T : Type 0} → Bool → Result T Stop → Option Ended → Type 0
HandsBack one_frame (Err (stop.Refused r)) closed = IsNone closed
HandsBack one_frame (Err stop.ReadFault) closed = IsNone closed
HandsBack one_frame (Err stop.Memory) closed = IsNone closed
HandsBack one_frame _ closed = HasFrame one_frame closed

-- What a run says, and its status: those of its stop. Where memory runs out for the text of a refusal, they say that memory ran
-- out.
abbrev pub Announces : Stop → Status → Taken → Type 0
Announces s is err = (is ≡ stop_status s) × TookLine err (stop_text s)

abbrev pub AnnouncesOrGivesUp : Stop → Status → Taken → Type 0
AnnouncesOrGivesUp s is err = Announces s is err ⊎ Announces stop.Memory is err

abbrev pub Reports : Stop → Status → Taken → Type 0
Reports (stop.Refused r) is err = AnnouncesOrGivesUp (stop.Refused r) is err
Reports (stop.PoolFull pool) is err = AnnouncesOrGivesUp (stop.PoolFull pool) is err
Reports stop.ReadFault is err = Announces stop.ReadFault is err
Reports stop.WriteFault is err = Announces stop.WriteFault is err
Reports stop.Memory is err = Announces stop.Memory is err

-- A run that comes to its end says nothing.
abbrev pub Tells : Result (Unit {0}) Stop → Status → Taken → Type 0
Tells (Ok _) is err = (is ≡ ended.Written) × Keeps err.old err.new
Tells (Err s) is err = Reports s is err

-- The frame that goes with a status.
abbrev pub handed_back : Status → Option Ended → Option Ended
handed_back ended.Written closed = closed
handed_back ended.PoolFull closed = closed
handed_back ended.WriteFault closed = closed
handed_back _ closed = None

-- A run that ended so, and what it says.
pub record Concludes (result : Result (Unit {0}) Stop) (closed : Option Ended) (ran : Ran) (err : Taken) : Type 0 where
  pub is : Status
  pub has_number : ran.status ≡ status_number is
  pub tells : Tells result is err
  pub frame : ran.closed ≡ handed_back is closed
