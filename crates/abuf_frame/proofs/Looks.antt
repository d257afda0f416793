-- The loads of a walk.
use Rattle.std.proofs.Common.{◌≡◌, ◌≢◌, ℕ, suc, ◌+◌, ◌-◌, ◌<◌, ◌≤◌, Bool, cond, eqb, true, false, true≢false, List, [], ◌∷◌, ◌++◌, map, length, sym, refl, ap, ◌∙◌, subst, arith, ⊎_elim, length-append, slice_index, Some, eq-eqb, ne_eqb, append_assoc, append-nil, IsPermutation}
use Rattle.std.specs.List.{AllByRecursion, Contains}
use mathlib.Core.Option.{some}
use mathlib.Core.List.{map-append}
use lib.ListN.{get_elem?}
use Rattle.std.proofs.lemmas.List.{length-map}
use Rattle.std.proofs.lemmas.List.Elements.{filter-append}
use Rattle.std.proofs.lemmas.Bool.{cases_lt, cases_eq}
use Rattle.std.proofs.lemmas.Bool.Decides.{nat_tests}
use Rattle.atomic_table.specs.Table.{Me, keeps, Allows}
use Rattle.abuf_frame.specs.declared.view.Stage.{Stage}
use Rattle.abuf_frame.specs.declared.view.Stage.TheVariants.{Linked, Swapped}
use Rattle.abuf_frame.specs.declared.view.Entry.{Entry}
use Rattle.abuf_frame.specs.declared.view.Passed.{Passed}
use Rattle.abuf_frame.specs.declared.view.Walk.{Walk}
use Rattle.abuf_frame.specs.declared.view.View.{View}
use Rattle.abuf_frame.specs.declared.view.FrameSize.{FrameSize}
use Rattle.abuf_frame.specs.Chains.{IsListAt}
use Rattle.abuf_frame.specs.Closing.{IsSuffix}
use Rattle.abuf_frame.specs.Draws.{pairs, payloads_at}
use Rattle.abuf_frame.specs.Lawful.{Agree, AreWalks, Follows, Lawful, Told}
use Rattle.abuf_frame.specs.Look.{SeesWhole}
use Rattle.abuf_frame.specs.Stages.{Precedes, is_linked, is_loose, next_of, payload_of, stands}
use Rattle.abuf_frame.specs.Views.{IsSettled, IsWhole, at_pixel, due_of, linked_of, number_of}
use Rattle.abuf_frame.specs.Walks.{AllMet, AllPaid, HasPassed, IsNoted, IsWalk, Noted, OnLast, going, gone, head_of, new_walk, node_of, noting, on_last, payload_at, payload_noted, walked_on, with_walk}
use Rattle.abuf_frame.specs.Words.{head_word, mark, next_word, payload_word}
use Rattle.abuf_num.specs.Counting.{times}
use Rattle.abuf_num.proofs.Counting.{below_yes, none_in, times-append, times_kept}
use Rattle.abuf_frame.proofs.Claims.{St, all-append, all-filter, all_more}
use Rattle.abuf_frame.proofs.Ends.{all_mine, carries_after, claimed_in, idle, list_is, list_pairs, next_after, node_in, numbers_kept, short, stands_le, tight_at, times_at}
use Rattle.abuf_frame.proofs.Shares.{looks, told_linked}

-- What follows in a chain follows in each of its ends.
follows_drop : (stage : ℕ → Stage) (p : ℕ) (xs ys : List ℕ) → Follows stage p (xs ++ ys) → Follows stage p ys
follows_drop stage p [] ys f = f
follows_drop stage p (x ∷ xs) ys f = follows_drop stage p xs ys f.1

-- What a pass was told of at a pixel stands there.
due_there : (stage : ℕ → Stage) (p n : ℕ) (es : List Entry) → Told stage es → 0 < times n (map number_of (at_pixel p es)) → stands p (stage n) ≡ 1
due_there stage p n es t h = let a = times_at stage p n es (all_more _ (λ e x. x.0) es t) in grind (arith, nat_tests)

-- The next of a node that isn't the mark is the head that it precedes.
next_linked : (y : Stage) (p h f : ℕ) → Precedes y p h → next_of y ≡ f → f ≢ mark → f ≡ h
next_linked (Linked q z o) p h f a e n = sym e ∙ a.1
next_linked (Swapped q z o) p h f a e n = absurd (n (sym e))
next_linked _ p h f a e n = absurd a

-- The last walk alone is changed.
pub on_last-snoc : (f : Walk → Walk) (ws : List Walk) (w : Walk) → on_last f (ws ++ w ∷ []) ≡ ws ++ f w ∷ []
on_last-snoc f [] w = refl
on_last-snoc f (x ∷ []) w = refl
on_last-snoc f (x ∷ y ∷ ys) w = ap (λ (l : List Walk). x ∷ l) (on_last-snoc f (y ∷ ys) w)

-- What holds of the last walk holds of it alone.
pub on_last_is : (P : Walk → Type 0) (ws : List Walk) (w : Walk) → OnLast P (ws ++ w ∷ []) ≡ P w
on_last_is P [] w = refl
on_last_is P (x ∷ []) w = refl
on_last_is P (x ∷ y ∷ ys) w = on_last_is P (y ∷ ys) w

-- A walk at the word 0 has nothing left.
ended : (ns : List ℕ) → head_of ns ≡ 0 → ns ≡ []
ended [] e = refl
ended (n ∷ ns) e = absurd (omega arith)

-- All walks are sound if those before the last are, and the last.
all_front : (stage : ℕ → Stage) (chain : ℕ → List ℕ) (pixels : ℕ) (ws : List Walk) (w : Walk) → AreWalks stage chain pixels (ws ++ w ∷ []) → AreWalks stage chain pixels ws × IsWalk stage chain pixels w
all_front stage chain pixels [] w a = (tt, a.0)
all_front stage chain pixels (x ∷ xs) w a = let r = all_front stage chain pixels xs w a.1 in ((a.0, r.0), r.1)

module _ (k : FrameSize) (s : St) (r : Lawful k s) where
  -- The head of a chain refers to a node, or to none.
  head_small : (p : ℕ) (ns : List ℕ) → Follows r.stage p ns → head_of ns ≤ k.nodes
  head_small p [] f = omega arith
  head_small p (n ∷ ns) f = let l = node_in k s r p n (head_of ns) f.0 in omega arith

  -- What a pass knows of others' entries stands as it was told.
  told_all : (id : ℕ) (v : View) → get_elem? s.views id ≡ some v → Told r.stage (linked_of v.entries ++ v.told)
  told_all id v at = all-append _ (linked_of v.entries) v.told (told_linked r.stage v.entries (r.agree id v at)) (r.told id v at)

  -- So does what is due at a pixel.
  told_due : (id : ℕ) (v : View) → get_elem? s.views id ≡ some v → (p : ℕ) → Told r.stage (due_of p v)
  told_due id v at p = all_more _ (λ e x. x.0) _ (all-filter _ (λ (e : Entry). eqb (stands p e.stage) 1) (linked_of v.entries ++ v.told) (told_all id v at))

  -- A walk that begins at the head of a pixel is sound.
  walks_new : (id p : ℕ) (v : View) → get_elem? s.views id ≡ some v → p < k.pixels → IsWalk r.stage r.chain k.pixels (new_walk p (slice_index s.words (head_word p)) v)
  walks_new id p v at on = record {
    on = on;
    before = [];
    rest = r.chain p;
    suffix = refl;
    stands_at = r.head p on;
    paid = tt;
    note = tt;
    marked = λ e. absurd (true≢false (sym e));
    due = λ n h. let a = due_there r.stage p n (linked_of v.entries ++ v.told) (told_all id v at) h in let b = r.exact p n on in omega arith;
  }

  module _ (w : Walk) (o : IsWalk r.stage r.chain k.pixels w) where
    -- What the walk hasn't passed follows in the chain.
    rest_follows : Follows r.stage w.pixel o.rest
    rest_follows = follows_drop r.stage w.pixel (map node_of w.passed) o.rest (follows_drop r.stage w.pixel o.before (map node_of w.passed ++ o.rest) (subst (Follows r.stage w.pixel) o.suffix (r.follows w.pixel o.on)))

    -- A walk that has noted the payload at its cursor is sound.
    walks_noted : w.cursor ≢ 0 → IsWalk r.stage r.chain k.pixels (noting (slice_index s.words (payload_word k.pixels (w.cursor - 1))) w)
    walks_noted away = record {
      on = o.on;
      before = o.before;
      rest = o.rest;
      suffix = o.suffix;
      stands_at = o.stands_at;
      paid = o.paid;
      note = here o.rest o.stands_at rest_follows;
      marked = λ e. absurd (true≢false (sym e));
      due = o.due;
    }
      where
        here : (ns : List ℕ) → w.cursor ≡ head_of ns → Follows r.stage w.pixel ns → Noted r.stage (Some (slice_index s.words (payload_word k.pixels (w.cursor - 1)))) ns
        here [] e f = absurd (away e)
        here (n ∷ ns) e f = let is : w.cursor - 1 ≡ n = omega arith in ap (λ (i : ℕ). slice_index s.words (payload_word k.pixels i)) is ∙ carries_after k.pixels (slice_index s.words (payload_word k.pixels n)) (r.stage n) w.pixel (head_of ns) f.0 (r.payload n)

    -- One that has gone on from such a cursor is sound.
    walks_going : (y : ℕ) → w.noted ≡ Some y → w.cursor ≢ 0 → (found : ℕ) → slice_index s.words (next_word k.pixels (w.cursor - 1)) ≡ found → IsWalk r.stage r.chain k.pixels (going found w)
    walks_going y has away found is = pick (eqb found mark) refl o.rest o.stands_at rest_follows o.suffix o.due (subst (λ n. Noted r.stage n o.rest) has o.note)
      where
        pick : (b : Bool) → eqb found mark ≡ b → (ns : List ℕ) → w.cursor ≡ head_of ns → Follows r.stage w.pixel ns → r.chain w.pixel ≡ o.before ++ (map node_of w.passed ++ ns) → ((n : ℕ) → 0 < times n (map number_of w.due) → 0 < times n (map node_of w.passed ++ ns))
            → Noted r.stage (Some y) ns → IsWalk r.stage r.chain k.pixels (gone b found w)
        pick true b ns e f suf due nt = record { on = o.on; before = o.before; rest = o.rest; suffix = o.suffix; stands_at = o.stands_at; paid = o.paid; note = o.note; marked = λ m. subst IsNoted (sym has) tt; due = o.due }
        pick false b [] e f suf due nt = absurd (away e)
        pick false b (n ∷ ns) e f suf due nt = let at : w.cursor - 1 ≡ n = omega arith in let here : Passed = record { node = w.cursor - 1; payload = payload_noted w.noted } in
            let nodes : map node_of (w.passed ++ here ∷ []) ++ ns ≡ map node_of w.passed ++ n ∷ ns = ap (λ (l : List ℕ). l ++ ns) (map-append node_of w.passed (here ∷ []))
            ∙ (append_assoc (map node_of w.passed) ((w.cursor - 1) ∷ []) ns ∙ ap (λ (i : ℕ). map node_of w.passed ++ i ∷ ns) at) in record {
              on = o.on;
              before = o.before;
              rest = ns;
              suffix = suf ∙ ap (λ (l : List ℕ). o.before ++ l) (sym nodes);
              stands_at = next_linked (r.stage n) w.pixel (head_of ns) found f.0 (sym (r.next n (node_in k s r w.pixel n (head_of ns) f.0)) ∙ (ap (λ (i : ℕ). slice_index s.words (next_word k.pixels i)) (sym at) ∙ is)) (λ m. true≢false (sym (eq-eqb found mark m) ∙ b));
              paid = all-append _ w.passed (here ∷ []) o.paid (ap payload_noted has ∙ (nt ∙ ap (λ (i : ℕ). payload_of (r.stage i)) (sym at)), tt);
              note = tt;
              marked = λ m. absurd (true≢false (sym m));
              due = λ m h. subst (λ (l : List ℕ). 0 < times m l) (sym nodes) (due m h);
            }

-- What stands at a pixel and isn't loose is linked.
linked_tight : (p : ℕ) (y : Stage) → stands p y ≡ 1 → is_loose y ≡ false → is_linked y ≡ true
linked_tight p (Linked q z o) a b = refl
linked_tight p (Swapped q z o) a b = absurd (true≢false b)
linked_tight p _ a b = absurd (omega arith)

-- An entry of the pass that stands at a pixel and isn't loose is due there.
due_mine : (stage : ℕ → Stage) (p n : ℕ) (es told : List Entry) → Agree stage es → stands p (stage n) ≡ 1 → is_loose (stage n) ≡ false → 0 < times n (map number_of es) → 0 < times n (map number_of (at_pixel p (linked_of es ++ told)))
due_mine stage p n es told a one tight h = let l = linked_tight p (stage n) one tight in let t = ap (times n) (numbers_kept stage is_linked es a) ∙ times_kept (λ m. is_linked (stage m)) n (map number_of es) in
    let u = times_at stage p n (linked_of es) (all_more _ (λ e x. x.0) (linked_of es) (told_linked stage es a)) in
    let both = ap (λ (fs : List Entry). times n (map number_of fs)) (filter-append (λ (e : Entry). eqb (stands p e.stage) 1) (linked_of es) told) ∙ (ap (times n) (map-append number_of (at_pixel p (linked_of es)) (at_pixel p told)) ∙ times-append n (map number_of (at_pixel p (linked_of es))) (map number_of (at_pixel p told))) in
    grind (arith, nat_tests)

-- Payloads passed are those by the stages of the nodes passed.
paid_map : (stage : ℕ → Stage) (xs : List Passed) → AllPaid stage xs → map payload_at xs ≡ map (λ n. payload_of (stage n)) (map node_of xs)
paid_map stage [] p = refl
paid_map stage (x ∷ xs) p = let r = paid_map stage xs p.1 in λ i. p.0 i ∷ r i

module _ (k : FrameSize) (s : St) (r : Lawful k s) (id : ℕ) (v : View) (at : get_elem? s.views id ≡ some v) (w : Walk) (o : IsWalk r.stage r.chain k.pixels w) (due : w.due ≡ due_of w.pixel v) (whole : IsWhole v) (settled : IsSettled v) where
  -- a whole, settled pass has passed nodes from the head on
  from_head : r.chain w.pixel ≡ map node_of w.passed ++ o.rest
  from_head = o.suffix ∙ ap (λ (l : List ℕ). l ++ (map node_of w.passed ++ o.rest)) (none_in o.before (λ n. ⊎_elim (λ (h : 0 < times n o.before). absurd (none n h)) (λ (h : times n o.before ≤ 0). omega arith) (cases_lt 0 (times n o.before))))
    where
      none : (n : ℕ) → 0 < times n o.before → ⊥
      none n h = let p : ℕ = w.pixel in let t : List ℕ = map node_of w.passed in
          let e = ap (times n) o.suffix in let f = times-append n o.before (t ++ o.rest) in let x = r.exact p n o.on in let y = stands_le p (r.stage n) in let one : stands p (r.stage n) ≡ 1 = omega arith in
          let old : n < slice_index s.words 0 = ⊎_elim (λ (g : n < slice_index s.words 0). g) (λ (g : slice_index s.words 0 ≤ n). let z = idle k s r p n g in absurd (omega arith)) (cases_lt n (slice_index s.words 0)) in
          let m = all_mine k s r id v at whole n in let b = below_yes n (slice_index s.words 0) old in
          let d = due_mine r.stage p n v.entries v.told (r.agree id v at) one (tight_at k s r id v at whole settled n old) (omega arith) in
          let g = o.due n (subst (λ (l : List Entry). 0 < times n (map number_of l)) (sym due) d) in omega arith

  -- The payloads of the chain are those passed, and those of the rest.
  first_payloads : map (λ n. payload_of (r.stage n)) (r.chain w.pixel) ≡ map payload_at w.passed ++ map (λ n. payload_of (r.stage n)) o.rest
  first_payloads = let pay : ℕ → ℕ = λ n. payload_of (r.stage n) in let t : List ℕ = map node_of w.passed in
      ap (map pay) from_head ∙ (map-append pay t o.rest ∙ ap (λ (l : List ℕ). l ++ map pay o.rest) (sym (paid_map r.stage w.passed o.paid)))

  -- A walk at its end has nothing left.
  nothing : w.cursor ≡ 0 → o.rest ≡ []
  nothing zero_is = ended o.rest (sym o.stands_at ∙ zero_is)

  -- One at a node has.
  something : w.cursor ≢ 0 → 0 < length o.rest
  something away = further o.rest o.stands_at
    where
      further : (ns : List ℕ) → w.cursor ≡ head_of ns → 0 < length ns
      further [] e = absurd (away e)
      further (n ∷ ns) e = omega arith

-- For a pass that is whole and settled, the payloads of the nodes passed are the first of the pixel's list, all of them exactly
-- where the walk has reached the end.
abbrev pub SeesList : View → Walk → Type 0
SeesList v w = IsWhole v → IsSettled v → (list : List ℕ) × (rest : List ℕ) × IsListAt w.pixel v.entries list × (list ≡ map payload_at w.passed ++ rest) × (w.cursor ≡ 0 → rest ≡ []) × (w.cursor ≢ 0 → 0 < length rest)

-- So they are the first of the payloads that stand there.
pub sees_whole : (v : View) (w : Walk) → SeesList v w → SeesWhole v w
sees_whole v w l whole settled = let a = l whole settled in (a.1, subst (λ (xs : List ℕ). IsPermutation xs (payloads_at w.pixel (pairs v.entries))) a.3 (list_pairs w.pixel v.entries a.0 settled a.2), a.4)

-- Once the pass is whole and settled, a walk sees the list of its pixel.
pub sees_list : (k : FrameSize) (s : St) (r : Lawful k s) (id : ℕ) (v : View) → get_elem? s.views id ≡ some v → (w : Walk) → IsWalk r.stage r.chain k.pixels w → w.due ≡ due_of w.pixel v → SeesList v w
sees_list k s r id v at w o due whole settled = let p : ℕ = w.pixel in let pay : ℕ → ℕ = λ n. payload_of (r.stage n) in (
  map pay (r.chain p),
  map pay o.rest,
  list_is k s r id v at whole settled p o.on,
  first_payloads k s r id v at w o due whole settled,
  (λ zero_is. ap (map pay) (nothing k s r id v at w o due whole settled zero_is)),
  (λ away. let l = length-map o.rest pay in let f = something k s r id v at w o due whole settled away in omega arith),
)

-- a node that was passed, with its payload
has_passed : (stage : ℕ → Stage) (n : ℕ) (xs : List Passed) → AllPaid stage xs → 0 < times n (map node_of xs) → Contains xs (record { node = n; payload = payload_of (stage n) })
has_passed stage n [] p h = absurd (omega arith)
has_passed stage n (x ∷ xs) p h = ⊎_elim (λ (g : x.node ≡ n). let same = p.0 ∙ ap (λ (m : ℕ). payload_of (stage m)) g in (0, omega arith, λ i. record { node = g i; payload = same i }))
    (λ (g : x.node ≢ n). let z = ap (λ (b : Bool). cond {A = ℕ} b 1 0) (ne_eqb x.node n g) in let r = has_passed stage n xs p.1 (omega arith) in (suc r.0, (let l = r.1 in omega arith), r.2)) (cases_eq x.node n)

-- entries that the state has as they are, whose nodes were passed, were passed with their payloads
all_met : (stage : ℕ → Stage) (w : Walk) → AllPaid stage w.passed → (es : List Entry) → Told stage es → ((n : ℕ) → 0 < times n (map number_of es) → 0 < times n (map node_of w.passed)) → AllByRecursion (HasPassed w) es
all_met stage w paid [] t h = tt
all_met stage w paid (e ∷ es) t h = let one = ap (λ (b : Bool). cond {A = ℕ} b 1 0) (eq-eqb e.number e.number refl) in (
  subst (λ (y : ℕ). Contains w.passed (record { node = e.number; payload = y })) (ap payload_of (sym t.0.0)) (has_passed stage e.number w.passed paid (h e.number (omega arith))),
  all_met stage w paid es t.1 (λ n l. h n (omega arith)),
)

-- a walk that has reached the end has passed a suffix of its list
pub seen_end : (k : FrameSize) (s : St) (r : Lawful k s) (w : Walk) (o : IsWalk r.stage r.chain k.pixels w) → w.cursor ≡ 0 → IsSuffix (map payload_at w.passed) (map (λ n. payload_of (r.stage n)) (r.chain w.pixel))
seen_end k s r w o zero_is = let t : List ℕ = map node_of w.passed in let pay : ℕ → ℕ = λ n. payload_of (r.stage n) in (
  map pay o.before,
  ap (map pay) (o.suffix ∙ ap (λ (l : List ℕ). o.before ++ (t ++ l)) (ended o.rest (sym o.stands_at ∙ zero_is)) ∙ ap (λ (l : List ℕ). o.before ++ l) (append-nil t)) ∙ (map-append pay o.before t
      ∙ ap (λ (l : List ℕ). map pay o.before ++ l) (sym (paid_map r.stage w.passed o.paid))),
)

-- what a load of a next shows
pub record Shown (nodes : ℕ) (v : View) (w : Walk) (found : ℕ) : Type 0 where
  pub small : found ≢ mark → found ≤ nodes
  pub within : found ≢ mark → length w.passed + 1 ≤ nodes
  pub met : found ≡ 0 → w.due ≡ due_of w.pixel v → AllMet (going found w)
  pub linked : IsWhole v → IsSettled v → found ≢ mark
  pub lists : w.due ≡ due_of w.pixel v → SeesList v (going found w)

module _ (k : FrameSize) (slots id : ℕ) (me : Me (Unit {0}) View) (bare : me.1 ≡ []) where
  -- A load of a head, which begins a walk, is allowed.
  pub looks_head : (p : ℕ) → p < k.pixels → Allows (Lawful k) slots id me (head_word p) (λ n. n) (λ found now. (now ≡ (with_walk (new_walk p found me.0) me.0, [])) × ((found ≤ k.nodes) × (found ≡ 0 → AllMet (new_walk p found me.0)) × SeesList me.0 (new_walk p found me.0)))
  looks_head p on s r deep at small = let found : ℕ = slice_index s.words (head_word p) in let w : Walk = new_walk p found me.0 in let v' : View = with_walk w me.0 in let o = walks_new k s r id p me.0 at on in (
    v',
    keeps,
    tt,
    looks k s r id (head_word p) me v' at refl refl refl (r.seen id me.0 at) (all-append _ me.0.walks (w ∷ []) (r.walked id me.0 at) (o, tt)),
    (
      (λ i. (v', bare i)),
      (
        (let e = r.head p on in let l = head_small k s r p (r.chain p) (r.follows p on) in omega arith),
        (λ zero_is. all_met r.stage w tt w.due (told_due k s r id me.0 at p) (λ n h. subst (λ (ns : List ℕ). 0 < times n ns) (ended o.rest (sym o.stands_at ∙ zero_is)) (o.due n h))),
        sees_list k s r id me.0 at w o refl,
      ),
    ),
  )

  module _ (ws : List Walk) (w : Walk) (last : me.0.walks ≡ ws ++ w ∷ []) (away : w.cursor ≢ 0) where
    -- The walks are sound after the last went on, if it is.
    replaced : (s : St) (r : Lawful k s) → get_elem? s.views id ≡ some me.0 → (f : Walk → Walk) → (IsWalk r.stage r.chain k.pixels w → IsWalk r.stage r.chain k.pixels (f w)) → AreWalks r.stage r.chain k.pixels (on_last f me.0.walks)
    replaced s r at f go = let a = all_front r.stage r.chain k.pixels ws w (subst (AreWalks r.stage r.chain k.pixels) last (r.walked id me.0 at)) in
        subst (AreWalks r.stage r.chain k.pixels) (sym (ap (on_last f) last ∙ on_last-snoc f ws w)) (all-append _ ws (f w ∷ []) a.0 (go a.1, tt))

    -- The walk is sound.
    mine : (s : St) (r : Lawful k s) → get_elem? s.views id ≡ some me.0 → IsWalk r.stage r.chain k.pixels w
    mine s r at = (all_front r.stage r.chain k.pixels ws w (subst (AreWalks r.stage r.chain k.pixels) last (r.walked id me.0 at))).1

    -- A load of the payload at the cursor, which is noted, is allowed.
    pub looks_payload : Allows (Lawful k) slots id me (payload_word k.pixels (w.cursor - 1)) (λ n. n) (λ found now. (now ≡ (walked_on (noting found) me.0, [])) × Unit {0})
    looks_payload s r deep at small = let found : ℕ = slice_index s.words (payload_word k.pixels (w.cursor - 1)) in let v' : View = walked_on (noting found) me.0 in (
      v',
      keeps,
      tt,
      looks k s r id (payload_word k.pixels (w.cursor - 1)) me v' at refl refl refl (r.seen id me.0 at) (replaced s r at (noting found) (λ o. walks_noted k s r w o away)),
      ((λ i. (v', bare i)), tt),
    )

    -- A load of the next there, by which the walk goes on, is allowed once the payload is noted.
    pub looks_next : (y : ℕ) → w.noted ≡ Some y → k.nodes < mark → Allows (Lawful k) slots id me (next_word k.pixels (w.cursor - 1)) (λ n. n) (λ found now. (now ≡ (walked_on (going found) me.0, [])) × OnLast (λ (x : Walk). Shown k.nodes me.0 x found) me.0.walks)
    looks_next y has few s r deep at small = let found : ℕ = slice_index s.words (next_word k.pixels (w.cursor - 1)) in let v' : View = walked_on (going found) me.0 in let o = mine s r at in (
      v',
      keeps,
      tt,
      looks k s r id (next_word k.pixels (w.cursor - 1)) me v' at refl refl refl (r.seen id me.0 at) (replaced s r at (going found) (λ o. walks_going k s r w o y has away found refl)),
      ((λ i. (v', bare i)), subst (OnLast (λ (x : Walk). Shown k.nodes me.0 x found)) (sym last) (subst (λ (T : Type 0). T) (sym (on_last_is (λ (x : Walk). Shown k.nodes me.0 x found) ws w)) (shown s r at found refl o (walks_going k s r w o y has away found refl) o.rest refl o.stands_at (rest_follows k s r w o)))),
    )
      where
        shown : (s : St) (r : Lawful k s) → get_elem? s.views id ≡ some me.0 → (found : ℕ) → slice_index s.words (next_word k.pixels (w.cursor - 1)) ≡ found → (o : IsWalk r.stage r.chain k.pixels w) → IsWalk r.stage r.chain k.pixels (going found w) → (ns : List ℕ) → o.rest ≡ ns → w.cursor ≡ head_of ns → Follows r.stage w.pixel ns → Shown k.nodes me.0 w found
        shown s r at found is o g [] same e f = absurd (away e)
        shown s r at found is o g (n ∷ ns) same e f = let here : w.cursor - 1 ≡ n = omega arith in let node = node_in k s r w.pixel n (head_of ns) f.0 in let old = claimed_in k s r w.pixel n (head_of ns) f.0 in
            let nxt : next_of (r.stage n) ≡ found = sym (r.next n node) ∙ (ap (λ (i : ℕ). slice_index s.words (next_word k.pixels i)) (sym here) ∙ is) in record {
              small = λ m. let h = head_small k s r w.pixel ns f.1 in let x = next_linked (r.stage n) w.pixel (head_of ns) found f.0 nxt m in omega arith;
              within = λ m. let l = short k s r w.pixel o.on in let a = ap (λ (l : List ℕ). length l) o.suffix in let b = length-append o.before (map node_of w.passed ++ o.rest) in let c = length-append (map node_of w.passed) o.rest in let d = length-map w.passed node_of in let q = ap (λ (l : List ℕ). length l) same in omega arith;
              met = λ z due. all_met r.stage (going found w) g.paid w.due (subst (Told r.stage) (sym due) (told_due k s r id me.0 at w.pixel)) (λ m h. reached g.rest (sym g.stands_at ∙ ap (λ (i : ℕ). (going i w).cursor) z) m (g.due m h));
              linked = λ whole settled m. let t = tight_at k s r id me.0 at whole settled n old in let x = next_after (r.stage n) w.pixel (head_of ns) f.0 t in let h = head_small k s r w.pixel ns f.1 in omega arith;
              lists = λ due. sees_list k s r id me.0 at (going found w) g due;
            }
          where
            reached : (ms : List ℕ) → head_of ms ≡ 0 → (m : ℕ) → 0 < times m (map node_of (going found w).passed ++ ms) → 0 < times m (map node_of (going found w).passed)
            reached ms e m h = subst (λ (l : List ℕ). 0 < times m l) (ap (λ (l : List ℕ). map node_of (going found w).passed ++ l) (ended ms e) ∙ append-nil (map node_of (going found w).passed)) h
