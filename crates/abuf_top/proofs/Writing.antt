-- What a run leaves that writes the images of a sequence.
use Rattle.std.proofs.Common.{◌≡◌, ◌≤◌, ◌<◌, ◌+◌, ◌-◌, ℕ, Bool, true, false, nat_lt, List, [], length, take, Option, Some, None, refl, sym, ap, ◌∙◌, true≢false, arith}
use Rattle.std.specs.Prelude.{slice_index}
use Rattle.std.specs.List.{concat}
use Rattle.std.specs.Io.KnownBytes.{Appends}
use Rattle.std.proofs.lemmas.List.{length-map}
use Rattle.std.proofs.lemmas.Bool.{ltb-false}
use Rattle.std.proofs.Math.ListN.{length-take}
use Rattle.abuf_io.specs.Sinks.{Taken}
use Rattle.abuf_sequence.specs.Sequences.{first_full, images, image_of, sound_count, sound_images, total_of, totals, AreWritten, StopsAtFull, StopsAtFault, StopsAfter}
use Rattle.abuf_top.specs.Ending.{RefusesBy}
use Rattle.abuf_top.specs.Images.{Images, image_pool}
use Rattle.abuf_top.specs.Refusals.{full_text}
use Rattle.abuf_top.specs.declared.status.Status.TheVariants as ended
use Rattle.abuf_top.specs.Table.{TookSome, most_whole}
use Rattle.abuf_top.specs.Verdict.{Refused, full_image, pools_verdict}
use Rattle.abuf_top.specs.declared.stop.FullPool.{FullPool}
use Rattle.abuf_top.specs.declared.stop.FullPool.TheVariants as full
use Rattle.abuf_top.specs.declared.stop.Stop.TheVariants as stop

module _ (i : Images) (out : Taken) where
  -- All images
  pub wrote : AreWritten i.plan i.triangles i.shots out → ((pools_verdict i).refusal ≡ None) × Appends out.old out.new (concat (pools_verdict i).outputs)
  wrote h = (ap (full_image i) h.none_full, h.written)

  -- those before a full one
  pub filled : (image fragments nodes : ℕ) → StopsAtFull i.plan i.triangles i.shots out image fragments nodes
      → RefusesBy (pools_verdict i) (stop.PoolFull (full.InSequence image fragments nodes)) × Appends out.old out.new (concat (pools_verdict i).outputs)
  filled image fragments nodes h =
      let back : image - 1 + 1 ≡ image = omega (arith, h.from_one) in
      let count : slice_index (totals i.plan i.triangles i.shots) (image - 1) ≡ fragments = sym h.count in
      let nodes_are : i.plan.nodes ≡ nodes = sym h.nodes_are in
      let pool : image_pool i (image - 1) ≡ full.InSequence image fragments nodes = λ j. full.InSequence (back j) (count j) (nodes_are j) in
      (ap (full_image i) h.first ∙ ap (λ (p : FullPool). Some (of_pool p)) pool, h.written) where
        -- The refusal of a pool.
        of_pool : FullPool → Refused
        of_pool p = record { status = ended.PoolFull; text = full_text p }

  -- a prefix of those
  pub cut : StopsAtFault i.plan i.triangles i.shots out → ((pools_verdict i).outputs ≡ [] → ⊥) × (count : ℕ) × Appends out.old out.new (take count (concat (pools_verdict i).outputs))
  cut h = (λ none. absurd (omega (arith, h.begun, ap (λ (xs : List (List ℕ)). length xs) none)), h.part.0, h.part.1)

  abbrev sound : ℕ
  sound = sound_count i.plan i.triangles i.shots

  abbrev count : ℕ
  count = length (totals i.plan i.triangles i.shots)

  abbrev first_if : Bool → Option ℕ
  first_if true = Some sound
  first_if false = None

  abbrev is_some : Option ℕ → Bool
  is_some None = false
  is_some (Some k) = true

  -- Which image is the first that is full.
  first_is : (b : Bool) → nat_lt sound count ≡ b → first_full i.plan i.triangles i.shots ≡ first_if b
  first_is true e = rw e refl
  first_is false e = rw e refl

  -- Where none is full, all are sound.
  all_sound : first_full i.plan i.triangles i.shots ≡ None → length (sound_images i.plan i.triangles i.shots) ≡ length i.shots
  all_sound none = go (nat_lt sound count) refl where
    go : (b : Bool) → nat_lt sound count ≡ b → length (sound_images i.plan i.triangles i.shots) ≡ length i.shots
    go true e = absurd (true≢false (ap is_some (sym (first_is true e) ∙ none)))
    go false e = omega (arith, ltb-false sound count e, length-take sound (images i.plan i.triangles i.shots), length-map i.shots (image_of i.plan i.triangles), length-map i.shots (total_of i.plan i.triangles))

  -- As many images as were written may be.
  most : (written : ℕ) → written ≤ length (sound_images i.plan i.triangles i.shots) → written < length i.shots → (k : Option ℕ) → first_full i.plan i.triangles i.shots ≡ k
      → written ≤ most_whole (full_image i k) (length (sound_images i.plan i.triangles i.shots))
  most written sound left None is = omega (arith, left, all_sound is)
  most written sound left (Some k) is = sound

  -- or some, whole.
  pub gave_up : (written : ℕ) → StopsAfter i.plan i.triangles i.shots out written → TookSome out (pools_verdict i)
  gave_up written h = (written, most written h.sound h.left (first_full i.plan i.triangles i.shots) refl, h.whole)
