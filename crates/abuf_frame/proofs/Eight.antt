-- Eight walks side by side, each in a lane with a word and a list of its own.
use Rattle.std.proofs.Common.{◌≡◌, ◌≢◌, ◌⊎◌, ℕ, zero, suc, ◌+◌, ◌-◌, ◌*◌, ◌<◌, ◌≤◌, Bool, cond, eqb, ltb, true, false, List, [], ◌∷◌, ◌++◌, map, length, refl, sym, ◌∙◌, ap, subst, arith, ⊎_elim, slice_index, slice_index_or, slice_set, length-set, get_or-set_same, get_or-set_other, eq-eqb, ne_eqb, append_assoc, append-nil}
use Rattle.std.proofs.lemmas.Bool.{cases_eq, ltb-true, ltb-false}
use Rattle.std.proofs.lemmas.List.FromFn.{get_or-map-range_with_len}
use Rattle.std.proofs.lemmas.List.{get_or-map, get_or_past, length-map, map-set}
use Rattle.abuf_frame.specs.Closing.{Kept, Threaded, lists_from, payloads_from}
use Rattle.abuf_frame.specs.Lanes.{Advances, Refers, head_or_end, next_from}
use Rattle.abuf_frame.specs.Words.{head_word, next_word, payload_word}
use Rattle.abuf_frame.proofs.Closes.{lists_length}

module _ {X : Type 0} (f : X → List ℕ) where
  -- the list of a lane that was just written
  put_same : (xs : List X) (k : ℕ) (v : X) → k < length xs → slice_index_or (map f (slice_set xs k v)) k [] ≡ f v
  put_same xs k v l = ap (λ (ys : List (List ℕ)). slice_index_or ys k []) (map-set f xs k v) ∙ get_or-set_same (map f xs) k (f v) [] (let e = length-map xs f in omega arith)

  -- the list of another lane
  put_other : (xs : List X) (k j : ℕ) (v : X) → j ≢ k → slice_index_or (map f (slice_set xs k v)) j [] ≡ slice_index_or (map f xs) j []
  put_other xs k j v h = ap (λ (ys : List (List ℕ)). slice_index_or ys j []) (map-set f xs k v) ∙ get_or-set_other (map f xs) k j (f v) [] h

  -- the lists of the lanes before k are empty
  abbrev pub Emptied : List X → ℕ → Type 0
  Emptied xs k = (length xs ≡ 8) × ((j : ℕ) → j < k → slice_index_or (map f xs) j [] ≡ [])

  -- one more lane was emptied
  pub empties : (xs : List X) (k : ℕ) (v : X) → k < 8 → f v ≡ [] → Emptied xs k → Emptied (slice_set xs k v) (k + 1)
  empties xs k v l e s = let long = s.0 in (
    length-set xs k v ∙ long,
    λ j b. ⊎_elim
        (λ (h : j ≡ k). subst (λ (i : ℕ). slice_index_or (map f (slice_set xs k v)) i [] ≡ []) (sym h) (put_same xs k v (omega arith) ∙ e))
        (λ (h : j ≢ k). put_other xs k j v h ∙ s.1 j (omega arith)) (cases_eq j k),
  )

  -- In the lanes before k, R relates the words and lists from before to the present ones, and the other lanes are as they were.
  module _ (R : ℕ → ℕ → List ℕ → List ℕ → Type 0) (from : List ℕ) (before : List X) where
    -- What a loop over lanes has done up to this one.
    abbrev pub AdvancedTo : List ℕ → List X → ℕ → Type 0
    AdvancedTo at xs k = (length at ≡ 8) × (length xs ≡ 8)
        × ((j : ℕ) → j < k → R (slice_index from j) (slice_index at j) (slice_index_or (map f before) j []) (slice_index_or (map f xs) j []))
        × ((j : ℕ) → k ≤ j → (slice_index at j ≡ slice_index from j) × (slice_index_or (map f xs) j [] ≡ slice_index_or (map f before) j []))

    -- one more lane has advanced
    pub advances_lane : (at : List ℕ) (xs : List X) (k next : ℕ) (v d : X) → k < 8 → R (slice_index at k) next (f (slice_index_or xs k d)) (f v) → AdvancedTo at xs k → AdvancedTo (slice_set at k next) (slice_set xs k v) (k + 1)
    advances_lane at xs k next v d l r s = let wide = s.0 in let long = s.1 in let here = s.3 k (omega arith) in
        let now : List ℕ = slice_set at k next in let lists : List X = slice_set xs k v in
        let same : R (slice_index from k) (slice_index now k) (slice_index_or (map f before) k []) (slice_index_or (map f lists) k []) =
        subst (λ (a : ℕ). R a (slice_index now k) (slice_index_or (map f before) k []) (slice_index_or (map f lists) k [])) here.0
        (subst (λ (b : ℕ). R (slice_index at k) b (slice_index_or (map f before) k []) (slice_index_or (map f lists) k [])) (sym (get_or-set_same at k next 0 (omega arith)))
        (subst (λ (c : List ℕ). R (slice_index at k) next c (slice_index_or (map f lists) k [])) (sym (get_or-map f xs k d [] (omega arith)) ∙ here.1)
        (subst (λ (e : List ℕ). R (slice_index at k) next (f (slice_index_or xs k d)) e) (sym (put_same xs k v (omega arith))) r))) in (
          length-set at k next ∙ wide,
          length-set xs k v ∙ long,
          (λ j b. ⊎_elim
              (λ (h : j ≡ k). subst (λ (i : ℕ). R (slice_index from i) (slice_index now i) (slice_index_or (map f before) i []) (slice_index_or (map f lists) i [])) (sym h) same)
              (λ (h : j ≢ k). subst (λ (a : ℕ). R (slice_index from j) a (slice_index_or (map f before) j []) (slice_index_or (map f lists) j [])) (sym (get_or-set_other at k j next 0 h))
              (subst (λ (e : List ℕ). R (slice_index from j) (slice_index at j) (slice_index_or (map f before) j []) e) (sym (put_other xs k j v h)) (s.2 j (omega arith)))) (cases_eq j k)),
          (λ j b. let h : j ≢ k = omega arith in let was = s.3 j (omega arith) in (get_or-set_other at k j next 0 h ∙ was.0, put_other xs k j v h ∙ was.1)),
        )

module _ (words : List ℕ) (pixels nodes : ℕ) where
  -- At the end there is nothing to come.
  end_gives : (most : ℕ) → payloads_from words pixels most 0 ≡ []
  end_gives zero = refl
  end_gives (suc most) = refl

  -- A walk gives the payload of the node at which it stands, if any, and those from its next on.
  walk_step : (most at : ℕ) → payloads_from words pixels (suc most) at ≡ payloads_from words pixels 1 at ++ payloads_from words pixels most (next_from words pixels at)
  walk_step most at = let payload : ℕ = slice_index words (payload_word pixels (at - 1)) in let next : ℕ = slice_index words (next_word pixels (at - 1)) in
      elim (eqb at 0) as (λ b. cond b [] (payload ∷ payloads_from words pixels most next) ≡ cond b [] (payload ∷ []) ++ payloads_from words pixels most (cond b 0 next)) [ true ↦ sym (end_gives most) | false ↦ refl ]

  -- Threaded nodes lead on from the next.
  leads_on : (at : ℕ) (ns : List ℕ) → Threaded words pixels nodes at ns → (ms : List ℕ) × Threaded words pixels nodes (next_from words pixels at) ms
  leads_on at [] t = ([], ap (λ (b : Bool). cond b 0 (slice_index words (next_word pixels (at - 1)))) (eq-eqb at 0 t))
  leads_on at (n ∷ ns) t = let e = t.0 in let is : n ≡ at - 1 = omega arith in (
    ns,
    subst (λ (m : ℕ). Threaded words pixels nodes m ns)
        (ap (λ (i : ℕ). slice_index words (next_word pixels i)) is ∙ sym (ap (λ (b : Bool). cond b 0 (slice_index words (next_word pixels (at - 1)))) (ne_eqb at 0 (λ z. omega arith)))) t.2,
  )

  -- A walk is to collect `all`. It has collected `done`, stands at the word `at`, and may pass at most so many nodes more.
  pub record Walks (most at : ℕ) (done all : List ℕ) : Type 0 where
    pub rest : List ℕ
    pub threaded : Threaded words pixels nodes at rest
    pub sum : done ++ payloads_from words pixels most at ≡ all

  -- Eight walks do, each to collect the list of its pixel, from the first on.
  abbrev pub AllWalk : ℕ → List ℕ → List (List ℕ) → List (List ℕ) → ℕ → Type 0
  AllWalk most at done all first = (k : ℕ) → k < 8 → Walks most (slice_index at k) (slice_index_or done k []) (slice_index_or all (first + k) [])

  -- the word at which a walk stands refers to a node of the frame, or is 0
  pub refers : (at : ℕ) (rest : List ℕ) → nodes ≤ 8388608 → length words ≡ 1 + pixels + 2 * nodes → Threaded words pixels nodes at rest → Refers words pixels at
  refers at [] few wide t = let e : at ≡ 0 = t in (omega arith, omega arith)
  refers at (n ∷ ns) few wide t = let e = t.0 in let l = t.1 in (omega arith, omega arith)

  -- each walk, from the head of its pixel or at the end
  pub begins : Kept words pixels nodes → (p most at : ℕ) (done : List ℕ) → most ≡ nodes → at ≡ head_or_end words pixels p → done ≡ [] → Walks most at done (slice_index_or (lists_from words pixels nodes 0 pixels) p [])
  begins k p most at done em ea ed = cases (ltb p pixels) refl
    where
      all : List ℕ
      all = slice_index_or (lists_from words pixels nodes 0 pixels) p []

      cases : (b : Bool) → ltb p pixels ≡ b → Walks most at done all
      cases true e = let on : p < pixels = ltb-true p pixels e in
          let head : at ≡ slice_index words (head_word p) = ea ∙ ap (λ (b : Bool). cond b (slice_index words (head_word p)) 0) e in record {
            rest = k.chain p;
            threaded = subst (λ (m : ℕ). Threaded words pixels nodes m (k.chain p)) (sym head) (k.threaded p on);
            sum = (λ i. ed i ++ payloads_from words pixels (em i) (head i)) ∙ sym (get_or-map-range_with_len (λ q. payloads_from words pixels nodes (slice_index words (head_word q))) 0 pixels p p [] on (omega arith));
          }
      cases false e = let past : pixels ≤ p = ltb-false p pixels e in let long = lists_length words pixels nodes 0 pixels in
          let ended : at ≡ 0 = ea ∙ ap (λ (b : Bool). cond b (slice_index words (head_word p)) 0) e in record {
            rest = [];
            threaded = ended;
            sum = (λ i. ed i ++ (ap (payloads_from words pixels most) ended ∙ end_gives most) i) ∙ sym (get_or_past (lists_from words pixels nodes 0 pixels) p [] (omega arith));
          }

  -- a walk that passes one more node
  pub advances_walk : (counter at next : ℕ) (done new all : List ℕ) → counter < nodes → Advances words pixels at next done new → Walks (nodes - counter) at done all → Walks (nodes - (counter + 1)) next new all
  advances_walk counter at next done new all l g w = let m : ℕ = nodes - (counter + 1) in let more : suc m ≡ nodes - counter = omega arith in let on = leads_on at w.rest w.threaded in record {
    rest = on.0;
    threaded = subst (λ (n : ℕ). Threaded words pixels nodes n on.0) (sym g.next_is) on.1;
    sum = (λ i. g.new_is i ++ payloads_from words pixels m (g.next_is i)) ∙ (append_assoc done (payloads_from words pixels 1 at) (payloads_from words pixels m (next_from words pixels at))
        ∙ (ap (λ (xs : List ℕ). done ++ xs) (sym (walk_step m at)) ∙ (ap (λ (n : ℕ). done ++ payloads_from words pixels n at) more ∙ w.sum)));
  }

  -- a walk that can't pass another node has collected all
  pub ends : (most at : ℕ) (done all : List ℕ) → (at ≡ 0) ⊎ (most ≡ 0) → Walks most at done all → done ≡ all
  ends most at done all stop w = sym (append-nil done) ∙ (ap (λ (xs : List ℕ). done ++ xs) (sym none) ∙ w.sum)
    where
      none : payloads_from words pixels most at ≡ []
      none = ⊎_elim (λ (e : at ≡ 0). ap (payloads_from words pixels most) e ∙ end_gives most) (λ (e : most ≡ 0). ap (λ (n : ℕ). payloads_from words pixels n at) e) stop
