-- A whole, settled pass at the end: the list of each pixel, which is the one chain of its entries along their old heads, and how many
-- entries are lost.
use Rattle.std.proofs.Common.{◌≡◌, ◌≢◌, ℕ, zero, suc, ◌+◌, ◌-◌, ◌^◌, ◌<◌, ◌≤◌, Bool, cond, eqb, ltb, true, false, true≢false, List, [], ◌∷◌, map, length, sym, refl, ap, ◌∙◌, subst, arith, ⊎_elim, slice_index, eq-eqb, ne_eqb, IsPermutation, filter, sum_by}
use mathlib.Core.Option.{some}
use lib.ListN.{get_elem?}
use Rattle.std.specs.List.{range_with_len}
use Rattle.std.proofs.lemmas.Bool.Decides.{nat_tests}
use Rattle.std.proofs.lemmas.Bool.{cases_lt, cases_eq}
use Rattle.std.proofs.lemmas.List.{nil_from_length}
use Rattle.std.proofs.lemmas.List.Elements.{All-from_recursion, recursion_from_All}
use Rattle.std.proofs.lemmas.List.Sorted.{All-permutation, IsPermutation-map, IsPermutation-sym, sum_by-IsPermutation}
use Rattle.std.proofs.lemmas.List.Sums.{sum_by-cons}
use Rattle.abuf_frame.specs.declared.view.Stage.{Stage}
use Rattle.abuf_frame.specs.declared.view.Stage.TheVariants.{Claimed, Filled, Swapped, Linked, Lost}
use Rattle.abuf_frame.specs.declared.view.Entry.{Entry}
use Rattle.abuf_frame.specs.declared.view.View.{View}
use Rattle.abuf_frame.specs.declared.view.FrameSize.{FrameSize}
use Rattle.abuf_num.specs.Counting.{below, times}
use Rattle.abuf_frame.specs.Chains.{AreChained, IsListAt, payload_in}
use Rattle.abuf_frame.specs.Views.{at_pixel, endowment, loose, lost, number_of, numbers}
use Rattle.abuf_frame.specs.Lawful.{Agree, Follows, Lawful}
use Rattle.abuf_frame.specs.Words.{head_word, next_word, payload_word}
use Rattle.abuf_frame.specs.Stages.{Precedes, Stores, is_loose, is_lost, next_of, old_of, payload_of, stands}
use Rattle.abuf_frame.specs.Walks.{head_of}
use Rattle.abuf_frame.specs.Closing.{Threaded, payloads_from}
use Rattle.abuf_frame.specs.Pass.{AllInRange, InRange}
use Rattle.abuf_frame.specs.Draws.{pairs, payloads_at, with_pair}
use Rattle.abuf_num.proofs.Counting.{Under, below_yes, count_by-cons, none_in, pigeons, same_times, sum_only, times_first, times_kept, times_permuted}
use Rattle.abuf_frame.proofs.Claims.{St, all-filter, all_more, at_first, unclaimed}

-- A condition that counts for nothing is false.
not_counted : (b : Bool) → cond {A = ℕ} b 1 0 ≡ 0 → b ≡ false
not_counted true z = absurd (omega arith)
not_counted false z = refl

-- Where no entry is loose, no number of them is.
settles : (stage : ℕ → Stage) (n : ℕ) (es : List Entry) → loose es ≡ 0 → Agree stage es → 0 < times n (map number_of es) → is_loose (stage n) ≡ false
settles stage n [] l a t = absurd (omega arith)
settles stage n (e ∷ es) l a t = let c = count_by-cons (λ (f : Entry). is_loose f.stage) e es in ⊎_elim (λ (h : e.number ≡ n). subst (λ y. is_loose y ≡ false) (a.0 ∙ ap stage h) (not_counted (is_loose e.stage) (omega arith)))
    (λ (h : e.number ≢ n). let b = ap (λ (b : Bool). cond {A = ℕ} b 1 0) (ne_eqb e.number n h) in settles stage n es (omega arith) a.1 (omega arith)) (cases_eq e.number n)

-- The next of a node that isn't loose is the head that it precedes.
pub next_after : (y : Stage) (p h : ℕ) → Precedes y p h → is_loose y ≡ false → next_of y ≡ h
next_after (Linked q z o) p h a b = a.1
next_after (Swapped q z o) p h a b = absurd (true≢false b)
next_after _ p h a b = absurd a

-- The word that such a node stores is its payload.
pub carries_after : (pixels w : ℕ) (y : Stage) (p h : ℕ) → Precedes y p h → Stores pixels w y → w ≡ payload_of y
carries_after pixels w (Linked q z o) p h a b = b.1
carries_after pixels w (Swapped q z o) p h a b = b.1
carries_after pixels w _ p h a b = absurd a

-- A walk along threaded nodes gives the words of their payloads.
pub walk_is : (words : List ℕ) (pixels nodes : ℕ) (ns : List ℕ) (here fuel : ℕ) → Threaded words pixels nodes here ns → length ns ≤ fuel → payloads_from words pixels fuel here ≡ map (λ n. slice_index words (payload_word pixels n)) ns
walk_is words pixels nodes [] here zero t l = refl
walk_is words pixels nodes [] here (suc fuel) t l = ap (λ (b : Bool). cond b [] (slice_index words (payload_word pixels (here - 1)) ∷ payloads_from words pixels fuel (slice_index words (next_word pixels (here - 1))))) (eq-eqb here 0 t)
walk_is words pixels nodes (n ∷ ns) here zero t l = absurd (omega arith)
walk_is words pixels nodes (n ∷ ns) here (suc fuel) t l = let e = t.0 in let is : here - 1 ≡ n = omega arith in
    ap (λ (b : Bool). cond b [] (slice_index words (payload_word pixels (here - 1)) ∷ payloads_from words pixels fuel (slice_index words (next_word pixels (here - 1))))) (ne_eqb here 0 (λ z. omega arith))
    ∙ (ap (λ (m : ℕ). slice_index words (payload_word pixels m) ∷ payloads_from words pixels fuel (slice_index words (next_word pixels m))) is
    ∙ ap (λ (l : List ℕ). slice_index words (payload_word pixels n) ∷ l) (walk_is words pixels nodes ns (slice_index words (next_word pixels n)) fuel t.2 (omega arith)))

-- A number stands at most once at a pixel.
pub stands_le : (p : ℕ) (y : Stage) → stands p y ≤ 1
stands_le p (Swapped q z o) = let b : cond (eqb q p) 1 0 ≤ 1 = grind (arith, nat_tests) in b
stands_le p (Linked q z o) = let b : cond (eqb q p) 1 0 ≤ 1 = grind (arith, nat_tests) in b
stands_le p _ = omega arith

-- One that stands at a pixel has its payload there, and any other has none.
stand_pair : (p : ℕ) (e : Entry) → is_loose e.stage ≡ false → (es : List Entry) (xs : List (ℕ × ℕ)) → map payload_in (at_pixel p es) ≡ payloads_at p xs → map payload_in (at_pixel p (e ∷ es)) ≡ payloads_at p (with_pair e.stage xs)
stand_pair p e t es xs r = pick e.stage t
  where
    pick : (y : Stage) → is_loose y ≡ false → map payload_in (cond (eqb (stands p y) 1) (record { number = e.number; stage = y } ∷ at_pixel p es) (at_pixel p es)) ≡ payloads_at p (with_pair y xs)
    pick (Linked q z o) t = elim (eqb q p) as (λ b. map payload_in (cond (eqb (cond {A = ℕ} b 1 0) 1) (record { number = e.number; stage = Linked q z o } ∷ at_pixel p es) (at_pixel p es)) ≡ map (λ x. x.1) (cond b ((q, z) ∷ filter (λ x. eqb x.0 p) xs) (filter (λ x. eqb x.0 p) xs)))
        [ true ↦ λ i. z ∷ r i | false ↦ r ]
    pick Lost t = r
    pick _ t = absurd (true≢false t)

-- Where each entry is Linked or Lost, the payloads of those at a pixel are those of the Linked ones.
settled_pairs : (p : ℕ) (es : List Entry) → loose es ≡ 0 → map payload_in (at_pixel p es) ≡ payloads_at p (pairs es)
settled_pairs p [] l = refl
settled_pairs p (e ∷ es) l = let c = count_by-cons (λ (f : Entry). is_loose f.stage) e es in stand_pair p e (not_counted (is_loose e.stage) (omega arith)) es (pairs es) (settled_pairs p es (omega arith))

-- So they are the list of the pixel in some order.
pub list_pairs : (p : ℕ) (es : List Entry) (l : List ℕ) → loose es ≡ 0 → IsListAt p es l → IsPermutation l (payloads_at p (pairs es))
list_pairs p es l settled is = subst (λ (xs : List ℕ). IsPermutation xs (payloads_at p (pairs es))) (sym is.payloads_are)
    (subst (IsPermutation (map payload_in is.chain)) (settled_pairs p es settled) (IsPermutation-map payload_in is.chain (at_pixel p es) is.all))

-- Of entries that agree with the stages, those that pass a test have the numbers that pass it by their stages.
pub numbers_kept : (stage : ℕ → Stage) (q : Stage → Bool) (es : List Entry) → Agree stage es → map number_of (filter (λ e. q e.stage) es) ≡ filter (λ n. q (stage n)) (map number_of es)
numbers_kept stage q [] a = refl
numbers_kept stage q (e ∷ es) a = let r = numbers_kept stage q es a.1 in
    subst (λ (y : Stage). map number_of (filter (λ f. q f.stage) (e ∷ es)) ≡ cond (q y) (e.number ∷ filter (λ n. q (stage n)) (map number_of es)) (filter (λ n. q (stage n)) (map number_of es))) a.0
    (elim (q e.stage) as (λ b. map number_of (cond b (e ∷ filter (λ f. q f.stage) es) (filter (λ f. q f.stage) es)) ≡ cond b (e.number ∷ filter (λ n. q (stage n)) (map number_of es)) (filter (λ n. q (stage n)) (map number_of es)))
    [ true ↦ λ i. e.number ∷ r i | false ↦ r ])

-- So a number stands among those at a pixel as often as among all, if its stage stands there.
pub times_at : (stage : ℕ → Stage) (p n : ℕ) (es : List Entry) → Agree stage es → times n (map number_of (at_pixel p es)) ≡ cond (eqb (stands p (stage n)) 1) (times n (map number_of es)) 0
times_at stage p n es a = ap (times n) (numbers_kept stage (λ y. eqb (stands p y) 1) es a) ∙ times_kept (λ m. eqb (stands p (stage m)) 1) n (map number_of es)

-- A number put first stands once more.
times_here : (n : ℕ) (ns : List ℕ) → times n (n ∷ ns) ≡ 1 + times n ns
times_here n ns = ap (λ (b : Bool). cond {A = ℕ} b 1 0 + times n ns) (eq-eqb n n refl)

-- Another number put first changes no count.
times_other : (m n : ℕ) (ns : List ℕ) → m ≢ n → times n (m ∷ ns) ≡ times n ns
times_other m n ns d = let z = ap (λ (b : Bool). cond {A = ℕ} b 1 0) (ne_eqb m n d) in omega arith

module _ (stage : ℕ → Stage) where
  -- the entry of a number
  abbrev entry_at : ℕ → Entry
  entry_at n = record { number = n; stage = stage n }

  -- each old head refers to the next number
  abbrev Leads : List ℕ → Type 0
  Leads ns = AreChained (map entry_at ns)

  -- what an old head refers to comes after the first
  tail_has : (x : ℕ) (xs : List ℕ) → Leads (x ∷ xs) → (g m : ℕ) → 0 < times g (x ∷ xs) → old_of (stage g) ≡ m + 1 → 0 < times m xs
  tail_has x [] l g m h e = ⊎_elim (λ (d : x ≡ g). let a = ap (λ (n : ℕ). old_of (stage n)) d in let b = l.0 in absurd (omega arith))
      (λ (d : x ≢ g). let t = times_other x g [] d in absurd (omega arith)) (cases_eq x g)
  tail_has x (y ∷ ys) l g m h e = ⊎_elim (λ (d : x ≡ g). let a = ap (λ (n : ℕ). old_of (stage n)) d in let b = l.0 in let same : y ≡ m = omega arith in let t = times_here y ys in
      subst (λ (n : ℕ). 0 < times n (y ∷ ys)) same (omega arith))
      (λ (d : x ≢ g). let t = times_other x g (y ∷ ys) d in let r = tail_has y ys l.1 g m (omega arith) e in omega arith) (cases_eq x g)

  -- an old head refers to each number after the first
  has_before : (x : ℕ) (xs : List ℕ) → Leads (x ∷ xs) → (m : ℕ) → 0 < times m xs → (g : ℕ) × (0 < times g (x ∷ xs)) × (old_of (stage g) ≡ m + 1)
  has_before x [] l m h = absurd (omega arith)
  has_before x (y ∷ ys) l m h = ⊎_elim (λ (d : y ≡ m). let t = times_here x (y ∷ ys) in (x, omega arith, l.0 ∙ ap (λ (n : ℕ). n + 1) d))
      (λ (d : y ≢ m). let t = times_other y m ys d in let r = has_before y ys l.1 m (omega arith) in let a = r.1 in (r.0, omega arith, r.2)) (cases_eq y m)

  -- Two chains that both lead on from each node are alike if they have the same nodes, each once.
  one_chain : (xs ys : List ℕ) → Leads xs → Leads ys → ((n : ℕ) → times n xs ≡ times n ys) → ((n : ℕ) → times n xs ≤ 1) → xs ≡ ys
  one_chain [] ys a b e o = sym (none_in ys (λ n. sym (e n)))
  one_chain (x ∷ xs) [] a b e o = let t = times_here x xs in let h = e x in absurd (omega arith)
  one_chain (x ∷ xs) (y ∷ ys) a b e o = ⊎_elim
      (λ (d : y ≡ x). let rest = one_chain xs ys a.1 b.1 (λ n. let h = e n in let f = ap (λ (z : ℕ). times n (z ∷ ys)) d in omega arith) (λ n. let h = o n in omega arith) in λ i. sym d i ∷ rest i)
      (λ (d : y ≢ x). let t = times_here x xs in let u = times_other y x ys d in let h = e x in let g = has_before y ys b x (omega arith) in let q = e g.0 in let w = g.1 in
      let again = tail_has x xs a g.0 x (omega arith) g.2 in let once = o x in absurd (omega arith)) (cases_eq y x)

  -- The old head of an entry that precedes a head is that head.
  old_is : (y : Stage) (p h : ℕ) → Precedes y p h → old_of y ≡ h
  old_is (Linked q z o) p h a = a.1
  old_is (Swapped q z o) p h a = a.1
  old_is _ p h a = absurd a

  -- Nodes that follow each other by their stages lead from one to the next.
  follows_leads : (p : ℕ) (ns : List ℕ) → Follows stage p ns → Leads ns
  follows_leads p [] f = tt
  follows_leads p (n ∷ []) f = (old_is (stage n) p 0 f.0, tt)
  follows_leads p (n ∷ m ∷ ms) f = (old_is (stage n) p (m + 1) f.0, follows_leads p (m ∷ ms) f.1)

  -- Entries that agree with the stages are those of their numbers.
  entries_are : (es : List Entry) → Agree stage es → map entry_at (map number_of es) ≡ es
  entries_are [] a = refl
  entries_are (e ∷ es) a = let r = entries_are es a.1 in λ i. record { number = e.number; stage = sym a.0 i } ∷ r i

  -- The payloads by the stages of some nodes are those in their entries.
  payloads_nodes : (ns : List ℕ) → map (λ n. payload_of (stage n)) ns ≡ map payload_in (map entry_at ns)
  payloads_nodes [] = refl
  payloads_nodes (n ∷ ns) = let r = payloads_nodes ns in λ i. payload_of (stage n) ∷ r i

  -- Entries agree with the stages if these in another order do.
  agree_permuted : (es fs : List Entry) → IsPermutation es fs → Agree stage fs → Agree stage es
  agree_permuted es fs p a = let P : Entry → Type 0 = λ e. e.stage ≡ stage e.number in
      recursion_from_All P es (All-permutation P fs es (IsPermutation-sym es fs p) (All-from_recursion P fs a))

  -- Entries that agree do so at each pixel.
  agree_at : (p : ℕ) (es : List Entry) → Agree stage es → Agree stage (at_pixel p es)
  agree_at p es a = all_more _ (λ e h. h.0) (at_pixel p es) (all-filter _ (λ (e : Entry). eqb (stands p e.stage) 1) es a)

-- 1 where a number has no node, and else 0
abbrev over : ℕ → ℕ → ℕ
over nodes n = cond (ltb n nodes) 0 1

-- As many numbers of a range have no node as it goes beyond the nodes.
range_over : (nodes a count : ℕ) → sum_by (over nodes) (range_with_len a count) + (a - nodes) ≡ a + count - nodes
range_over nodes a zero = omega arith
range_over nodes a (suc count) = let r = range_over nodes (a + 1) count in let s = sum_by-cons (over nodes) a (range_with_len (a + 1) count) in grind (arith, nat_tests)

-- An entry is lost exactly where its number has no node.
lost_one : (pixels nodes n : ℕ) (x : Stage) → InRange pixels nodes n x → cond (is_lost x) 1 0 ≡ over nodes n
lost_one pixels nodes n Lost h = grind (arith, nat_tests)
lost_one pixels nodes n Claimed h = grind (arith, nat_tests)
lost_one pixels nodes n (Filled p y) h = let l = h.0 in grind (arith, nat_tests)
lost_one pixels nodes n (Swapped p y o) h = let l = h.0 in grind (arith, nat_tests)
lost_one pixels nodes n (Linked p y o) h = let l = h.0 in grind (arith, nat_tests)

-- So as many entries are lost as there are numbers without a node.
lost_all : (pixels nodes : ℕ) (es : List Entry) → AllInRange pixels nodes es → lost es ≡ sum_by (over nodes) (map number_of es)
lost_all pixels nodes [] a = refl
lost_all pixels nodes (e ∷ es) a = let r = lost_all pixels nodes es a.1 in let one = lost_one pixels nodes e.number e.stage a.0 in
    omega (arith, count_by-cons (λ (f : Entry). is_lost f.stage) e es, sum_by-cons (over nodes) e.number (map number_of es))

module _ (k : FrameSize) (s : St) (r : Lawful k s) where
  -- A number that precedes a head has a node,
  pub node_in : (p n h : ℕ) → Precedes (r.stage n) p h → n < k.nodes
  node_in p n h a = ⊎_elim (λ (g : n < k.nodes). g) (λ (g : k.nodes ≤ n). absurd (subst (λ y. Precedes y p h) (r.lost n g) a)) (cases_lt n k.nodes)

  -- and was claimed.
  pub claimed_in : (p n h : ℕ) → Precedes (r.stage n) p h → n < slice_index s.words 0
  claimed_in p n h a = ⊎_elim (λ (g : n < slice_index s.words 0). g) (λ (g : slice_index s.words 0 ≤ n). absurd (subst (λ y. Precedes y p h) (r.fresh n g (node_in p n h a)) a)) (cases_lt n (slice_index s.words 0))

  -- One that wasn't claimed stands nowhere.
  pub idle : (p n : ℕ) → slice_index s.words 0 ≤ n → stands p (r.stage n) ≡ 0
  idle p n l = ap (stands p) (unclaimed k s r n l) ∙ at_first (λ y. stands p y ≡ 0) refl refl k.nodes n

  -- The numbers of a chain have nodes.
  under_chain : (p : ℕ) (ns : List ℕ) → Follows r.stage p ns → Under k.nodes ns
  under_chain p [] f = tt
  under_chain p (n ∷ ns) f = (node_in p n (head_of ns) f.0, under_chain p ns f.1)

  -- A number stands in a chain at most once,
  pub once_in : (p n : ℕ) → p < k.pixels → times n (r.chain p) ≤ 1
  once_in p n on = let a = r.exact p n on in let b = stands_le p (r.stage n) in omega arith

  -- so that it is no longer than there are nodes.
  pub short : (p : ℕ) → p < k.pixels → length (r.chain p) ≤ k.nodes
  short p on = pigeons k.nodes (r.chain p) (under_chain p (r.chain p) (r.follows p on)) (λ n. once_in p n on)

  -- The words of the payloads of a chain are its payloads.
  carried : (p : ℕ) (ns : List ℕ) → Follows r.stage p ns → map (λ n. slice_index s.words (payload_word k.pixels n)) ns ≡ map (λ n. payload_of (r.stage n)) ns
  carried p [] f = refl
  carried p (n ∷ ns) f = let a = carries_after k.pixels (slice_index s.words (payload_word k.pixels n)) (r.stage n) p (head_of ns) f.0 (r.payload n) in let b = carried p ns f.1 in λ i. a i ∷ b i

module _ (k : FrameSize) (s : St) (r : Lawful k s) (id : ℕ) (v : View) (at : get_elem? s.views id ≡ some v) (whole : endowment v ≡ 2 ^ 60) where
  -- If all other views have no entries, a sum over the views is what f is of this one.
  empty : (f : View → ℕ) → ((u : View) → length u.entries ≡ 0 → f u ≡ 0) → sum_by f s.views ≡ f v
  empty f h = sum_only f endowment (λ u e. h u (omega arith)) s.views id v at (r.endowed ∙ sym whole)

  -- So it has each number below the counter once,
  pub all_mine : (n : ℕ) → times n (numbers v) ≡ below n (slice_index s.words 0)
  all_mine n = sym (empty (λ (u : View). times n (numbers u)) (λ u e. ap (λ (es : List Entry). times n (map number_of es)) (nil_from_length u.entries e))) ∙ r.once n

  -- those at a pixel that stand in its chain,
  pub exact_mine : (p n : ℕ) → p < k.pixels → times n (r.chain p) ≡ times n (map number_of (at_pixel p v.entries))
  exact_mine p n on = let t = times_at r.stage p n v.entries (r.agree id v at) in let a = all_mine n in let x = r.exact p n on in let b = stands_le p (r.stage n) in
      ⊎_elim (λ (h : n < slice_index s.words 0). let y = below_yes n (slice_index s.words 0) h in grind (arith, nat_tests)) (λ (h : slice_index s.words 0 ≤ n). let z = idle k s r p n h in grind (arith, nat_tests)) (cases_lt n (slice_index s.words 0))

  -- and as many entries as the counter says.
  pub count_mine : length v.entries ≡ slice_index s.words 0
  count_mine = sym (empty (λ (u : View). length u.entries) (λ u e. e)) ∙ r.counted

  -- As many of its entries are lost as they are more than the nodes.
  pub lost_mine : AllInRange k.pixels k.nodes v.entries → lost v.entries ≡ length v.entries - k.nodes
  lost_mine sound = let c : ℕ = slice_index s.words 0 in let same : IsPermutation (range_with_len 0 c) (numbers v) = same_times (range_with_len 0 c) (numbers v) (λ n. times_first n c ∙ sym (all_mine n)) in
      let a = lost_all k.pixels k.nodes v.entries sound in let b = sum_by-IsPermutation (over k.nodes) (range_with_len 0 c) (numbers v) same in let o = range_over k.nodes 0 c in let n = count_mine in omega arith

  module _ (settled : loose v.entries ≡ 0) where
    -- No number is loose.
    pub tight_at : (n : ℕ) → n < slice_index s.words 0 → is_loose (r.stage n) ≡ false
    tight_at n l = settles r.stage n v.entries settled (r.agree id v at) (let a = all_mine n in let b : below n (slice_index s.words 0) ≡ 1 = grind (arith, nat_tests) in omega arith)

    -- The nodes that follow each other by their stages are threaded by their words.
    threads : (p : ℕ) (ns : List ℕ) (here : ℕ) → Follows r.stage p ns → here ≡ head_of ns → Threaded s.words k.pixels k.nodes here ns
    threads p [] here f e = e
    threads p (n ∷ ns) here f e = let node = node_in k s r p n (head_of ns) f.0 in let tight = tight_at n (claimed_in k s r p n (head_of ns) f.0) in
        (e, node, threads p ns (slice_index s.words (next_word k.pixels n)) f.1 (r.next n node ∙ next_after (r.stage n) p (head_of ns) f.0 tight))

    -- So is the chain of each pixel, from its head.
    pub threaded : (p : ℕ) → p < k.pixels → Threaded s.words k.pixels k.nodes (slice_index s.words (head_word p)) (r.chain p)
    threaded p on = threads p (r.chain p) (slice_index s.words (head_word p)) (r.follows p on) (r.head p on)

    -- The walk from a head gives the payloads of the chain.
    pub walk_chain : (p : ℕ) → p < k.pixels → payloads_from s.words k.pixels k.nodes (slice_index s.words (head_word p)) ≡ map (λ n. payload_of (r.stage n)) (r.chain p)
    walk_chain p on = walk_is s.words k.pixels k.nodes (r.chain p) (slice_index s.words (head_word p)) k.nodes (threaded p on) (short k s r p on) ∙ carried k s r p (r.chain p) (r.follows p on)

    -- The payloads of a pixel's chain are its list.
    pub list_is : (p : ℕ) → p < k.pixels → IsListAt p v.entries (map (λ n. payload_of (r.stage n)) (r.chain p))
    list_is p on = record {
      chain = map (entry_at r.stage) (r.chain p);
      all = subst (IsPermutation (map (entry_at r.stage) (r.chain p))) (entries_are r.stage (at_pixel p v.entries) (agree_at r.stage p v.entries (r.agree id v at)))
          (IsPermutation-map (entry_at r.stage) (r.chain p) (map number_of (at_pixel p v.entries)) (same_times (r.chain p) (map number_of (at_pixel p v.entries)) (λ n. exact_mine p n on)));
      chained = follows_leads r.stage p (r.chain p) (r.follows p on);
      payloads_are = payloads_nodes r.stage (r.chain p);
    }

    -- It has no other.
    pub only_list : (p : ℕ) → p < k.pixels → (l : List ℕ) → IsListAt p v.entries l → l ≡ map (λ n. payload_of (r.stage n)) (r.chain p)
    only_list p on l is = let at_p : List Entry = at_pixel p v.entries in let ns : List ℕ = map number_of is.chain in
        let agree : Agree r.stage is.chain = agree_permuted r.stage is.chain at_p is.all (agree_at r.stage p v.entries (r.agree id v at)) in let same_chain = entries_are r.stage is.chain agree in
        let same : r.chain p ≡ ns = one_chain r.stage (r.chain p) ns (follows_leads r.stage p (r.chain p) (r.follows p on)) (subst AreChained (sym same_chain) is.chained)
        (λ n. exact_mine p n on ∙ sym (times_permuted n ns (map number_of at_p) (IsPermutation-map number_of is.chain at_p is.all))) (λ n. once_in k s r p n on) in
        is.payloads_are ∙ (ap (map payload_in) (sym same_chain) ∙ (sym (payloads_nodes r.stage ns) ∙ ap (map (λ n. payload_of (r.stage n))) (sym same)))
