-- What a look at a pixel's list leaves in a slice with room for all its words.
use Rattle.std.proofs.Common.{◌≡◌, ◌≢◌, ℕ, ◌≤◌, List, [], ◌++◌, map, take, length, IsPermutation, refl, sym, ap, subst, ◌∙◌, append-nil, length-append, arith}
use Rattle.std.proofs.lemmas.List.{length-map, nil_from_length}
use Rattle.std.proofs.lemmas.List.Sorted.{length_permutation}
use Rattle.std.proofs.Math.Seq.{take-append_seam}
use Rattle.abuf_frame.specs.declared.view.Walk.{Walk}
use Rattle.abuf_frame.specs.declared.view.View.{View}
use Rattle.abuf_frame.specs.declared.look.Look.{Look}
use Rattle.abuf_frame.specs.declared.look.Look.TheVariants as look
use Rattle.abuf_frame.specs.Views.{IsWhole, IsSettled}
use Rattle.abuf_frame.specs.Walks.{payload_at}
use Rattle.abuf_frame.specs.Look.{Looked}
use Rattle.abuf_frame.specs.Draws.{pairs, payloads_at}
use Rattle.abuf_picture.specs.Drawn.{found}

module _ (place : ℕ) (v : View) (old new : List ℕ) (w : Walk) where
  -- the payloads of the nodes passed stand first
  front : (n : ℕ) (rest : List ℕ) → n ≡ length w.passed → new ≡ map payload_at w.passed ++ rest → take n new ≡ map payload_at w.passed
  front n rest count is =
      ap (take n) is
      ∙ ap (λ (k : ℕ). take k (map payload_at w.passed ++ rest)) (count ∙ sym (length-map w.passed payload_at))
      ∙ take-append_seam (map payload_at w.passed) rest

  -- Where nothing is left of the walk, the payloads of the nodes passed are all of the pixel.
  whole_list : (rest : List ℕ) → rest ≡ [] → IsPermutation (map payload_at w.passed ++ rest) (payloads_at w.pixel (pairs v.entries)) → w.pixel ≡ place
      → IsPermutation (map payload_at w.passed) (payloads_at place (pairs v.entries))
  whole_list rest none all here =
      let same : map payload_at w.passed ++ rest ≡ map payload_at w.passed = ap (λ (r : List ℕ). map payload_at w.passed ++ r) none ∙ append-nil (map payload_at w.passed) in
      subst (λ (p : ℕ). IsPermutation (map payload_at w.passed) (payloads_at p (pairs v.entries))) here
      (subst (λ (xs : List ℕ). IsPermutation xs (payloads_at w.pixel (pairs v.entries))) same all)

  -- all words of the pixel were seen
  pub seen : (found_there : Look) → Looked place v old new found_there w → IsWhole v → IsSettled v → ((n : ℕ) → found_there ≢ look.Unlinked n)
      → length (payloads_at place (pairs v.entries)) ≤ length old → IsPermutation (take (found found_there (length old)) new) (payloads_at place (pairs v.entries))
  seen (look.All count) l whole settled linked room =
      let s = l.whole whole settled in
      subst (λ (xs : List ℕ). IsPermutation xs (payloads_at place (pairs v.entries))) (sym (front count _ l.answer.1 l.written.2)) (whole_list s.0 (s.2 l.answer.0) s.1 l.here)
  seen look.More l whole settled linked room =
      let s = l.whole whole settled in
      let lengths : length (map payload_at w.passed ++ s.0) ≡ length (payloads_at w.pixel (pairs v.entries)) = sym (length_permutation _ _ s.1) in
      let few : length (payloads_at w.pixel (pairs v.entries)) ≤ length old = subst (λ (p : ℕ). length (payloads_at p (pairs v.entries)) ≤ length old) (sym l.here) room in
      let none : length s.0 ≡ 0 = omega (arith, lengths, few, length-append (map payload_at w.passed) s.0, length-map w.passed payload_at, l.answer.1) in
      subst (λ (xs : List ℕ). IsPermutation xs (payloads_at place (pairs v.entries))) (sym (front (length old) _ (sym l.answer.1) l.written.2)) (whole_list s.0 (nil_from_length s.0 none) s.1 l.here)
  seen (look.Unlinked node) l whole settled linked room = absurd (linked node refl)
