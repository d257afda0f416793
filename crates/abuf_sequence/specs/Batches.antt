-- Images of a sequence that are drawn at once, and then written after those before them.
use Rattle.std.specs.Prelude.{◌≡◌, ◌≤◌, ◌<◌, ◌+◌, ℕ, List, take, length, slice_index_or, Option, Result, Ok, Err}
use Rattle.std.specs.List.{concat}
use Rattle.std.specs.Io.KnownBytes.{Appends}
use Rattle.abuf_num.specs.declared.limits.TheConstants.{MAX_THREADS}
use Rattle.abuf_scene.specs.declared.triangles.Triangle.{Triangle}
use Rattle.abuf_view.specs.Primitives.{AreInLimits}
use Rattle.abuf_sequence.specs.declared.fault.SequenceFault.{SequenceFault}
use Rattle.abuf_sequence.specs.declared.job.Drawn.{Drawn}
use Rattle.abuf_sequence.specs.declared.job.Job.{Job}
use Rattle.abuf_sequence.specs.declared.path.Shot.{Shot}
use Rattle.abuf_sequence.specs.declared.plan.Plan.{Plan}
use Rattle.abuf_sequence.specs.Paths.{IsShot}
use Rattle.abuf_io.specs.Sinks.{Taken}
use Rattle.abuf_sequence.specs.Sequences.{IsPlan, images, sound_count, IsSequenceAnswer}
use Rattle.abuf_sequence.specs.Single.{AreBytes, IsDrawAnswer}

abbrev pub shot_of : Job → Shot
shot_of job = job.shot

-- What the drawing of a shot of these triangles by so many threads asks.
abbrev pub MayDraw : Plan → List Triangle → ℕ → Shot → Type 0
MayDraw plan triangles threads shot = AreInLimits triangles × IsShot shot × IsPlan plan × (1 ≤ threads) × (threads ≤ MAX_THREADS)

module _ (plan : Plan) (triangles : List Triangle) (shots : List Shot) where
  -- What drawing gives for each of these shots, in their order.
  pub record AreDrawn (drawn : List Drawn) : Type 0 where
    pub count : length drawn ≡ length shots
    pub each : (k : ℕ) (d : Shot) (e : Drawn) → k < length shots
        → IsDrawAnswer plan triangles (slice_index_or shots k d) (AreBytes plan triangles (slice_index_or shots k d)) (slice_index_or drawn k e).image

  -- What drawing gives for the shots from this number on.
  pub record AreDrawnFrom (before : ℕ) (drawn : List Drawn) : Type 0 where
    pub within : before + length drawn ≤ length shots
    pub each : (k : ℕ) (d : Shot) (e : Drawn) → k < length drawn
        → IsDrawAnswer plan triangles (slice_index_or shots (before + k) d) (AreBytes plan triangles (slice_index_or shots (before + k) d)) (slice_index_or drawn k e).image

  -- So many images come before the first full one, and they alone were written.
  pub record HaveWritten (count : ℕ) (out : Taken) : Type 0 where
    pub sound : count ≤ sound_count plan triangles shots
    pub written : Appends out.old out.new (concat (take count (images plan triangles shots)))
    pub later : out.faults_old ≤ out.faults_new

  -- So many were written, or the sequence has ended.
  abbrev pub IsBatchAnswer : {T : Type 0} → ℕ → Taken → Result T SequenceFault → Type 0
  IsBatchAnswer {T} count out (Ok _) = HaveWritten count out
  IsBatchAnswer {T} count out (Err fault) = IsSequenceAnswer plan triangles shots out {T = T} (Err fault)

-- For any sequence of which so many images were written, and then these were drawn: what it has written with them, or answers.
abbrev pub Continues : {T : Type 0} → ℕ → List Drawn → Taken → Result T SequenceFault → Type 0
Continues before drawn out result =
    (plan : Plan) (triangles : List Triangle) (shots : List Shot) (old : Option (List ℕ)) (faults : ℕ) → AreDrawnFrom plan triangles shots before drawn
    → HaveWritten plan triangles shots before (record { old = old; new = out.old; faults_old = faults; faults_new = out.faults_old })
    → IsBatchAnswer plan triangles shots (before + length drawn) (record { old = old; new = out.new; faults_old = faults; faults_new = out.faults_new }) result
