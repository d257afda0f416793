-- The images of a sequence that are written, joined, as far as they are sound.
use Rattle.std.proofs.Common.{◌≡◌, ◌≤◌, ◌<◌, ◌+◌, ◌-◌, ◌++◌, ◌∷◌, [], ℕ, zero, suc, Bool, true, false, not, nat_lt, List, length, take, drop, slice_index, slice_index_or, Option, Some, Err, refl, sym, ap, subst, ◌∙◌, append-nil, append_assoc, take-append-drop, if◌then◌else◌, arith}
use Rattle.std.specs.List.{concat, position_or_len}
use Rattle.std.specs.Io.KnownBytes.{Appends}
use Rattle.std.proofs.KnownBytes.{Appends-trans, Appends-kept}
use Rattle.std.proofs.lemmas.Bool.{le-ltb, lt-ltb}
use Rattle.std.proofs.lemmas.List.{get_or-map, length-map, take_more}
use Rattle.std.proofs.lemmas.List.Folds.{concat-append}
use Rattle.std.proofs.lemmas.List.Sums.{position_or_len_is, fails_before_first}
use Rattle.std.proofs.Math.ListN.{length-take}
use Rattle.std.proofs.Math.Seq.{take_all, take-append_seam, take-take}
use Rattle.abuf_scene.specs.declared.triangles.Triangle.{Triangle}
use Rattle.abuf_sequence.specs.declared.fault.ImageFault.{ImageFault}
use Rattle.abuf_sequence.specs.declared.fault.ImageFault.TheVariants as fault
use Rattle.abuf_sequence.specs.declared.path.Shot.{Shot}
use Rattle.abuf_sequence.specs.declared.plan.Plan.{Plan}
use Rattle.abuf_sequence.specs.Sequences.{first_full, image_of, images, sound_count, sound_images, total_of, totals, IsSequenceAnswer, AreWritten}
use Rattle.abuf_sequence.specs.Single.{IsWriteAnswer, fault_after}

-- ---- the first number above the nodes

module _ (p : ℕ → Bool) where
  at : (b : Bool) (x : ℕ) (xs : List ℕ) → p x ≡ b → position_or_len p (x ∷ xs) ≡ (if not b then 1 + position_or_len p xs else 0)
  at b x xs e = ap (λ (t : Bool). if not t then 1 + position_or_len p xs else 0) e

  -- One that isn't above, after others, isn't the first that is.
  pub passed : (xs : List ℕ) (k : ℕ) → k ≤ position_or_len p xs → k < length xs → p (slice_index_or xs k 0) ≡ false → k + 1 ≤ position_or_len p xs
  passed [] k before here e = absurd (omega arith)
  passed (x ∷ xs) zero before here e = omega (arith, at false x xs e)
  passed (x ∷ xs) (suc k) before here e = go (p x) refl (passed xs k) where
    go : (b : Bool) → p x ≡ b → (k ≤ position_or_len p xs → k < length xs → p (slice_index_or xs k 0) ≡ false → k + 1 ≤ position_or_len p xs) → suc k + 1 ≤ position_or_len p (x ∷ xs)
    go true is rest = absurd (omega (arith, at true x xs is))
    go false is rest = omega (arith, at false x xs is, rest (omega (arith, at false x xs is)) (omega arith) e)

  -- One that is above, after others that aren't, is the first.
  pub stopped : (xs : List ℕ) (k : ℕ) → k ≤ position_or_len p xs → k < length xs → p (slice_index_or xs k 0) ≡ true → position_or_len p xs ≡ k
  stopped xs k before here e = position_or_len_is p xs k 0 (omega arith) (λ j below. fails_before_first p xs j 0 (omega arith)) (λ below. e)

  -- If all have been passed, none is above.
  pub none_above : (xs : List ℕ) → length xs ≤ position_or_len p xs → position_or_len p xs ≡ length xs
  none_above xs all = position_or_len_is p xs (length xs) 0 (omega arith) (λ j below. fails_before_first p xs j 0 (omega arith)) (λ below. absurd (omega arith))

-- ---- after so many images that were written

module _ (plan : Plan) (scene : List Triangle) (shots : List Shot) (k : ℕ) (sound : k ≤ sound_count plan scene shots) where
  -- As many as were written come before the first full one.
  abbrev all : List (List ℕ)
  all = images plan scene shots

  -- They are sound.
  front : take k (sound_images plan scene shots) ≡ take k all
  front = take-take k (sound_count plan scene shots) all sound

  -- If they are all, none is full.
  pub finished : (old new : Option (List ℕ)) (faults_old faults_new : ℕ) → length shots ≤ k → Appends old new (concat (take k all))
      → AreWritten plan scene shots (record { old = old; new = new; faults_old = faults_old; faults_new = faults_new })
  finished old new faults_old faults_new past written =
      let xs : List ℕ = totals plan scene shots in
      let count : length xs ≡ length shots = length-map shots (total_of plan scene) in
      let many : length all ≡ length shots = length-map shots (image_of plan scene) in
      let end : sound_count plan scene shots ≡ length xs = none_above (nat_lt plan.nodes) xs (omega (arith, sound)) in
      let whole : sound_images plan scene shots ≡ all = take_all (sound_count plan scene shots) all (omega arith) in
      record {
        none_full = rw (end, le-ltb (length xs) (length xs) (omega arith)) refl;
        all = whole;
        written = subst (Appends old new) (ap concat (take_all k all (omega arith) ∙ sym whole)) written;
      }

  module _ (d : Shot) (below : k < length shots) where
    abbrev here : Shot
    here = slice_index_or shots k d

    total_here : slice_index_or (totals plan scene shots) k 0 ≡ total_of plan scene here
    total_here = get_or-map (total_of plan scene) shots k d 0 below

    image_here : slice_index_or all k [] ≡ image_of plan scene here
    image_here = get_or-map (image_of plan scene) shots k d [] below

    -- One more that fits is sound,
    pub one_more : total_of plan scene here ≤ plan.nodes → k + 1 ≤ sound_count plan scene shots
    one_more fit =
        passed (nat_lt plan.nodes) (totals plan scene shots) k sound (omega (arith, length-map shots (total_of plan scene)))
        (ap (nat_lt plan.nodes) total_here ∙ le-ltb plan.nodes (total_of plan scene here) fit)

    -- and comes after the others.
    grown : concat (take (k + 1) all) ≡ concat (take k all) ++ image_of plan scene here
    grown =
        ap concat (take_more all k [] (omega (arith, length-map shots (image_of plan scene))))
        ∙ (concat-append (take k all) (slice_index_or all k [] ∷ [])
        ∙ ap (λ (bytes : List ℕ). concat (take k all) ++ bytes) (append-nil (slice_index_or all k []) ∙ image_here))

    pub written_more : (old mid new : Option (List ℕ)) → Appends old mid (concat (take k all)) → Appends mid new (image_of plan scene here) → Appends old new (concat (take (k + 1) all))
    written_more old mid new before after = subst (Appends old new) (sym grown) (Appends-trans old mid new _ _ before after)

    -- A prefix of it, after the others, is a prefix of what is sound.
    prefix : total_of plan scene here ≤ plan.nodes → (count : ℕ)
        → take (length (concat (take k all) ++ take count (image_of plan scene here))) (concat (sound_images plan scene shots)) ≡ concat (take k all) ++ take count (image_of plan scene here)
    prefix fit count =
        let whole : List (List ℕ) = sound_images plan scene shots in
        let image : List ℕ = image_of plan scene here in
        let before : List ℕ = concat (take k all) in
        let later : List ℕ = concat (drop (k + 1) whole) in
        let part : List ℕ = before ++ take count image in
        let halves : before ++ image ≡ part ++ drop count image =
        ap (λ (bytes : List ℕ). before ++ bytes) (sym (take-append-drop count image)) ∙ sym (append_assoc before (take count image) (drop count image)) in
        let cut : concat whole ≡ part ++ (drop count image ++ later) =
        ap concat (sym (take-append-drop (k + 1) whole))
        ∙ (concat-append (take (k + 1) whole) (drop (k + 1) whole)
        ∙ (ap (λ (xss : List (List ℕ)). concat xss ++ later) (take-take (k + 1) (sound_count plan scene shots) all (one_more fit))
        ∙ (ap (λ (bytes : List ℕ). bytes ++ later) (grown ∙ halves) ∙ append_assoc part (drop count image) later))) in
        ap (take (length part)) cut ∙ take-append_seam part (drop count image ++ later)

    -- What the writing of one image answers after the others is what that of the sequence answers.
    pub ends : (T : Type 0) (old mid new : Option (List ℕ)) (faults_old faults_mid faults_new : ℕ) → Appends old mid (concat (take k all)) → faults_old ≤ faults_mid → (why : ImageFault)
        → IsWriteAnswer plan scene here (record { old = mid; new = new; faults_old = faults_mid; faults_new = faults_new }) {T = T} (Err why)
        → IsSequenceAnswer plan scene shots (record { old = old; new = new; faults_old = faults_old; faults_new = faults_new }) {T = T} (Err (fault_after k why))
    ends T old mid new faults_old faults_mid faults_new before later (fault.Full fragments nodes) answer =
        let xs : List ℕ = totals plan scene shots in
        let inside : k < length xs = omega (arith, length-map shots (total_of plan scene)) in
        let first : sound_count plan scene shots ≡ k =
        stopped (nat_lt plan.nodes) xs k sound inside (ap (nat_lt plan.nodes) total_here ∙ lt-ltb plan.nodes (total_of plan scene here) answer.0.more) in
        let back : k ≡ k + 1 - 1 = omega arith in
        let position_is : first_full plan scene shots ≡ Some k = rw (first, lt-ltb k (length xs) inside) refl in
        record {
          from_one = omega arith;
          first = position_is ∙ ap Some back;
          count = answer.0.count ∙ (sym total_here ∙ ap (slice_index xs) back);
          nodes_are = answer.0.nodes_are;
          written = Appends-kept old mid new _ (subst (λ (n : ℕ). Appends old mid (concat (take n all))) (sym first) before) answer.1;
        }
    ends T old mid new faults_old faults_mid faults_new before later fault.Write answer =
        let count : ℕ = answer.part.0 in
        record {
          begun = omega (arith, one_more answer.fit, length-take (sound_count plan scene shots) all, length-map shots (image_of plan scene));
          part = (_, subst (Appends old new) (sym (prefix answer.fit count)) (Appends-trans old mid new _ _ before answer.part.1));
          rose = omega (arith, later, answer.rose);
        }
    ends T old mid new faults_old faults_mid faults_new before later fault.Memory answer = record {
      sound = omega (arith, length-take (sound_count plan scene shots) all, length-map shots (image_of plan scene));
      left = below;
      whole = subst (Appends old new) (ap concat (sym front)) (Appends-kept old mid new _ before answer);
    }
