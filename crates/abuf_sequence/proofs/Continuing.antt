-- Images that were drawn at once, written one after another after those before them.
use Rattle.std.proofs.Common.{◌≡◌, ◌≤◌, ◌<◌, ◌+◌, ℕ, List, [], length, take, drop, slice_index_or, Option, Result, Ok, Err, sym, ap, subst, ◌∙◌, arith}
use Rattle.std.specs.Io.KnownBytes.{Appends}
use Rattle.std.proofs.lemmas.List.{get_or-take, get_or-drop}
use Rattle.std.proofs.Math.ListN.{length-take, length-drop}
use Rattle.abuf_scene.specs.declared.triangles.Triangle.{Triangle}
use Rattle.abuf_sequence.specs.declared.fault.ImageFault.{ImageFault}
use Rattle.abuf_sequence.specs.declared.fault.ImageFault.TheVariants as fault
use Rattle.abuf_sequence.specs.declared.fault.SequenceFault.{SequenceFault}
use Rattle.abuf_sequence.specs.declared.job.Drawn.{Drawn}
use Rattle.abuf_sequence.specs.declared.path.Shot.{Shot}
use Rattle.abuf_sequence.specs.declared.plan.Plan.{Plan}
use Rattle.abuf_io.specs.Sinks.{Taken}
use Rattle.abuf_sequence.specs.Sequences.{IsSequenceAnswer}
use Rattle.abuf_sequence.specs.Single.{AreBytes, IsDrawAnswer, IsWriteAnswer, IsWritten, WritesDrawn, fault_after}
use Rattle.abuf_sequence.specs.Batches.{AreDrawn, AreDrawnFrom, HaveWritten}
use Rattle.abuf_sequence.proofs.Joining.{ends, one_more, written_more}

-- What the drawing of an image and then its writing answer is what both together do.
pub answers : (plan : Plan) (scene : List Triangle) (shot : Shot) (out : Taken) (T : Type 0) (drawn : Result (List ℕ) ImageFault) (result : Result T ImageFault)
    → IsDrawAnswer plan scene shot (AreBytes plan scene shot) drawn → WritesDrawn out {T = T} drawn result → IsWriteAnswer plan scene shot out {T = T} result
answers plan scene shot out T (Ok bytes) (Ok done) drew wrote = record { fit = drew.fit; written = subst (Appends out.old out.new) drew.are wrote }
answers plan scene shot out T (Ok bytes) (Err (fault.Full fragments nodes)) drew wrote = absurd wrote
answers plan scene shot out T (Ok bytes) (Err fault.Write) drew wrote = record {
  fit = drew.fit;
  part = (wrote.0, subst (λ (all : List ℕ). Appends out.old out.new (take wrote.0 all)) drew.are wrote.1);
  rose = wrote.2;
}
answers plan scene shot out T (Ok bytes) (Err fault.Memory) drew wrote = absurd wrote
answers plan scene shot out T (Err (fault.Full fragments nodes)) result drew wrote = subst (IsWriteAnswer plan scene shot out {T = T}) (sym wrote.0) (drew, wrote.1)
answers plan scene shot out T (Err fault.Write) result drew wrote = absurd drew
answers plan scene shot out T (Err fault.Memory) result drew wrote = subst (IsWriteAnswer plan scene shot out {T = T}) (sym wrote.0) wrote.1

-- A shot that stands for one past the end of a path.
nowhere : Shot
nowhere = record { turn = []; shift = [] }

module _ (plan : Plan) (scene : List Triangle) (shots : List Shot) where
  -- A part of the shots that lies within them has so many.
  part_length : (k n : ℕ) → k + n ≤ length shots → length (take n (drop k shots)) ≡ n
  part_length k n within = length-take n (drop k shots) ∙ omega (arith, length-drop k shots)

  -- Images that were drawn for such a part are as many,
  pub drawn_count : (k n : ℕ) → k + n ≤ length shots → (drawn : List Drawn) → AreDrawn plan scene (take n (drop k shots)) drawn → length drawn ≡ n
  drawn_count k n within drawn are = are.count ∙ part_length k n within

  -- and are those of the shots from its start on.
  pub drawn_from : (k n : ℕ) → k + n ≤ length shots → (drawn : List Drawn) → AreDrawn plan scene (take n (drop k shots)) drawn
      → AreDrawnFrom plan scene shots k drawn
  drawn_from k n within drawn are = record {
    within = omega (arith, drawn_count k n within drawn are);
    each = λ j d e below.
        let inside : j < n = omega (arith, drawn_count k n within drawn are) in
        subst (λ (shot : Shot). IsDrawAnswer plan scene shot (AreBytes plan scene shot) (slice_index_or drawn j e).image)
        (get_or-take n (drop k shots) j d inside ∙ get_or-drop k shots j d) (are.each j d e (omega (arith, part_length k n within)));
  }

  module _ (before : ℕ) (drawn : List Drawn) (are : AreDrawnFrom plan scene shots before drawn) (j : ℕ) (below : j < length drawn)
      (one : Drawn) (is : one ≡ slice_index_or drawn j one) where
    abbrev shot : Shot
    shot = slice_index_or shots (before + j) nowhere

    -- What drawing gave for its shot.
    drew : IsDrawAnswer plan scene shot (AreBytes plan scene shot) one.image
    drew = subst (λ (d : Drawn). IsDrawAnswer plan scene shot (AreBytes plan scene shot) d.image) (sym is) (are.each j nowhere one below)

    inside : before + j < length shots
    inside = omega (arith, are.within)

    module _ (old mid new : Option (List ℕ)) (faults_old faults_mid faults_new : ℕ) (has : HaveWritten plan scene shots (before + j) (record { old = old; new = mid; faults_old = faults_old; faults_new = faults_mid }))
        (T : Type 0) where
      -- Where it was written, one more has been.
      pub continued : faults_mid ≤ faults_new → (done : T) → WritesDrawn (record { old = mid; new = new; faults_old = faults_mid; faults_new = faults_new }) {T = T} one.image (Ok done)
          → HaveWritten plan scene shots (before + (j + 1)) (record { old = old; new = new; faults_old = faults_old; faults_new = faults_new })
      continued later done wrote =
          let next : before + j + 1 ≡ before + (j + 1) = omega arith in
          let written : IsWritten plan scene shot (record { old = mid; new = new; faults_old = faults_mid; faults_new = faults_new }) = answers plan scene shot _ T one.image (Ok done) drew wrote in
          subst (λ (n : ℕ). HaveWritten plan scene shots n (record { old = old; new = new; faults_old = faults_old; faults_new = faults_new })) next (record {
            sound = one_more plan scene shots (before + j) has.sound nowhere inside written.fit;
            written = written_more plan scene shots (before + j) has.sound nowhere inside old mid new has.written written.written;
            later = omega (arith, has.later, later);
          })

      -- Where it wasn't, that ends the sequence.
      pub ended : (why : ImageFault) (told : SequenceFault) (n : ℕ) → told ≡ fault_after n why → n ≡ before + j
          → WritesDrawn (record { old = mid; new = new; faults_old = faults_mid; faults_new = faults_new }) {T = T} one.image (Err why)
          → IsSequenceAnswer plan scene shots (record { old = old; new = new; faults_old = faults_old; faults_new = faults_new }) {T = T} (Err told)
      ended why told n so count wrote =
          subst (λ (e : SequenceFault). IsSequenceAnswer plan scene shots (record { old = old; new = new; faults_old = faults_old; faults_new = faults_new }) {T = T} (Err e))
          (sym (so ∙ ap (λ (m : ℕ). fault_after m why) count))
          (ends plan scene shots (before + j) has.sound nowhere inside T old mid new faults_old faults_mid faults_new has.written has.later why (answers plan scene shot _ T one.image (Err why) drew wrote))
