-- The start, and a claim.
use Rattle.std.proofs.Common.{◌≡◌, ◌≢◌, ℕ, zero, suc, ◌+◌, ◌-◌, ◌*◌, ◌%◌, ◌^◌, min, ◌<◌, ◌≤◌, Bool, cond, ltb, true, false, List, [], ◌∷◌, ◌++◌, map, filter, length, set, get_or, sym, refl, ap, ◌∙◌, subst, arith, ⊎_elim, length-append, length-set, get_or-set_same, get_or-set_other, slice_index, eq-eqb}
use mathlib.Core.Option.{some, some-injective, some-ne-none}
use mathlib.Core.List.{map-append}
use Rattle.std.specs.List.{AllByRecursion}
use lib.ListN.{get_elem?}
use Rattle.std.proofs.lemmas.List.Elements.{All-filter, All-from_recursion, All-weaker, filter_passes, recursion_from_All}
use Rattle.std.proofs.lemmas.List.Sums.{sum_by-append, count_by-le-length}
use Rattle.std.proofs.lemmas.Bool.Decides.{nat_tests}
use Rattle.std.proofs.lemmas.Bool.{cases_lt}
use Rattle.atomic_table.specs.Table.{State, Me, keeps, stepped, Allows, opening}
use Rattle.atomic_table.proofs.Lists.{at_set}
use Rattle.abuf_frame.specs.declared.view.Stage.{Stage}
use Rattle.abuf_frame.specs.declared.view.Stage.TheVariants.{Claimed, Lost}
use Rattle.abuf_frame.specs.declared.view.Entry.{Entry}
use Rattle.abuf_frame.specs.declared.view.View.{View}
use Rattle.abuf_frame.specs.declared.view.FrameSize.{FrameSize}
use Rattle.abuf_num.specs.Counting.{below, times}
use Rattle.abuf_frame.specs.Views.{Below, endowment, loose, number_of, numbers, whole_view}
use Rattle.abuf_frame.specs.Lawful.{Agree, AreWalks, Lawful, Told}
use Rattle.abuf_frame.specs.Steps.{claimed, new_entry, new_entries}
use Rattle.abuf_frame.specs.Words.{head_word, mark, next_word, payload_word}
use Rattle.abuf_frame.specs.Stages.{Stores, is_loose, is_lost, next_of, stands}
use Rattle.abuf_frame.specs.Pass.{AllInRange, InRange, Ties}
use Rattle.abuf_num.proofs.Counting.{count_by-cons, sum_set, sum_le, sum_both, times-append, below_more, below_no, below_from}

-- The states of a frame's table.
abbrev pub St : Type 0
St = State (Unit {0}) View

-- The stage of a number when it is claimed.
abbrev pub first_stage : ℕ → ℕ → Stage
first_stage nodes n = cond (ltb n nodes) Claimed Lost

-- A number that has a node is Claimed at first.
pub first_claimed : (nodes n : ℕ) → n < nodes → first_stage nodes n ≡ Claimed
first_claimed nodes n h = grind (arith, nat_tests)

-- One that has none is Lost.
pub first_lost : (nodes n : ℕ) → nodes ≤ n → first_stage nodes n ≡ Lost
first_lost nodes n h = grind (arith, nat_tests)

-- What holds of both holds of a number's first stage.
pub at_first : (F : Stage → Type 0) → F Claimed → F Lost → (nodes n : ℕ) → F (first_stage nodes n)
at_first F c l nodes n = elim (ltb n nodes) as (λ b. F (cond b Claimed Lost)) [ true ↦ c | false ↦ l ]

-- What holds of the only view holds of each.
one_view : (P : ℕ → View → Type 0) (v : View) → P 0 v → (j : ℕ) (u : View) → get_elem? (v ∷ []) j ≡ some u → P j u
one_view P v h zero u e = subst (P 0) (some-injective v u e) h
one_view P v h (suc j) u e = absurd (some-ne-none u (sym e))

-- The initial words with one whole view are lawful.
pub starts : (k : FrameSize) (words : List ℕ) → length words ≡ 1 + k.pixels + 2 * k.nodes → ((i : ℕ) → i < 1 + k.pixels → slice_index words i ≡ 0)
    → ((n : ℕ) → n < k.nodes → slice_index words (next_word k.pixels n) ≡ mark) → Lawful k (opening words [] whole_view)
starts k words wide zeros marks = record {
  stage = first_stage k.nodes;
  chain = λ _. [];
  wide = wide;
  once = λ n. sym (below_no n (slice_index words 0) (let e = zeros 0 (omega arith) in omega arith));
  counted = sym (zeros 0 (omega arith));
  endowed = refl;
  agree = one_view (λ j v. Agree (first_stage k.nodes) v.entries) whole_view tt;
  told = one_view (λ j v. Told (first_stage k.nodes) v.told) whole_view tt;
  seen = one_view (λ j v. v.seen ≤ slice_index words 0) whole_view (omega arith);
  walked = one_view (λ j v. AreWalks (first_stage k.nodes) (λ _. []) k.pixels v.walks) whole_view tt;
  fresh = λ n _ h. first_claimed k.nodes n h;
  lost = λ n h. first_lost k.nodes n h;
  kept = λ n h. ap is_lost (first_claimed k.nodes n h);
  payload = λ n. at_first (Stores k.pixels (slice_index words (payload_word k.pixels n))) tt tt k.nodes n;
  next = λ n h. marks n h ∙ sym (ap next_of (first_claimed k.nodes n h));
  head = λ p h. zeros (head_word p) (omega arith);
  follows = λ p h. tt;
  exact = λ p n h. at_first (λ y. 0 ≡ stands p y) refl refl k.nodes n;
}

-- What holds of the items of two lists holds of those of both together.
pub all-append : {X : Type 0} (P : X → Type 0) (l m : List X) → AllByRecursion P l → AllByRecursion P m → AllByRecursion P (l ++ m)
all-append P [] m a b = b
all-append P (x ∷ xs) m a b = (a.0, all-append P xs m a.1 b)

-- What holds of the items of a list holds of those that pass a test, which they pass.
pub all-filter : {X : Type 0} (P : X → Type 0) (q : X → Bool) (l : List X) → AllByRecursion P l → AllByRecursion (λ x. P x × (q x ≡ true)) (filter q l)
all-filter P q l a = recursion_from_All _ (filter q l) (λ k d h. (All-filter q P l (All-from_recursion P l a) k d h, filter_passes q l k d h))

-- What follows of each item holds of each.
pub all_more : {X : Type 0} {P : X → Type 0} (Q : X → Type 0) → ((x : X) → P x → Q x) → (l : List X) → AllByRecursion P l → AllByRecursion Q l
all_more {P = P} Q f l a = recursion_from_All Q l (All-weaker P Q f l (All-from_recursion P l a))

-- New entries agree where each number is at its first stage.
agree_new : (stage : ℕ → Stage) (nodes first count : ℕ) → ((n : ℕ) → first ≤ n → stage n ≡ first_stage nodes n) → Agree stage (new_entries nodes first count)
agree_new stage nodes first zero h = tt
agree_new stage nodes first (suc count) h = (sym (h first (omega arith)), agree_new stage nodes (first + 1) count (λ n l. h n (omega arith)))

-- There are as many new entries as numbers.
pub length_new : (nodes first count : ℕ) → length (new_entries nodes first count) ≡ count
length_new nodes first zero = refl
length_new nodes first (suc count) = ap suc (length_new nodes (first + 1) count)

-- The new entries have the numbers from the first on, each once.
pub times_new : (nodes n first count : ℕ) → times n (map number_of (new_entries nodes first count)) + below n first ≡ below n (first + count)
times_new nodes n first zero = let same : first ≡ first + 0 = omega arith in let e : below n first ≡ below n (first + 0) = ap (λ (x : ℕ). below n x) same in omega arith
times_new nodes n first (suc count) = let r = times_new nodes n (first + 1) count in let m = below_more n first in
    let same : (first + 1) + count ≡ first + suc count = omega arith in let e : below n ((first + 1) + count) ≡ below n (first + suc count) = ap (λ (x : ℕ). below n x) same in omega arith

-- what the counter leaves
pub room : (k : FrameSize) (s : St) → Lawful k s → (id : ℕ) (v : View) → get_elem? s.views id ≡ some v → v.credit + slice_index s.words 0 ≤ 2 ^ 60
room k s r id v at = let b = sum_both (λ (u : View). u.credit) (λ (u : View). length u.entries) s.views in let c = sum_le (λ (u : View). u.credit) s.views id v at in let d = r.counted in let e = r.endowed in omega arith

-- What holds of all other views and of a new one holds after one was replaced by it.
pub views_set : (P : View → Type 0) (vs : List View) (id : ℕ) (w : View) → P w → ((j : ℕ) (u : View) → j ≢ id → get_elem? vs j ≡ some u → P u) → (j : ℕ) (u : View) → get_elem? (set vs id w) j ≡ some u → P u
views_set P vs id w mine others j u e = ⊎_elim (λ (t : (j ≡ id) × (w ≡ u)). subst P t.1 mine) (λ (t : (j ≢ id) × (get_elem? vs j ≡ some u)). others j u t.0 t.1) (at_set vs id j w u e)

-- A number that nobody has claimed is at its first stage.
pub unclaimed : (k : FrameSize) (s : St) (r : Lawful k s) (n : ℕ) → slice_index s.words 0 ≤ n → r.stage n ≡ first_stage k.nodes n
unclaimed k s r n l = ⊎_elim (λ (h : n < k.nodes). r.fresh n l h ∙ sym (first_claimed k.nodes n h)) (λ (h : k.nodes ≤ n). r.lost n h ∙ sym (first_lost k.nodes n h)) (cases_lt n k.nodes)

-- After a claim a view has the numbers of before and those claimed.
numbers_claimed : (nodes first count n : ℕ) (v : View) → times n (numbers (claimed nodes first count v)) + below n first ≡ times n (numbers v) + below n (first + count)
numbers_claimed nodes first count n v = let e = map-append number_of v.entries (new_entries nodes first count) in
    let t = times-append n (map number_of v.entries) (map number_of (new_entries nodes first count)) in
    let u = times_new nodes n first count in let z = ap (times n) e in omega arith

-- A claim keeps the state lawful.
claim_state : (k : FrameSize) (s : St) (r : Lawful k s) (id count c : ℕ) (v : View) → get_elem? s.views id ≡ some v → count ≤ v.credit → slice_index s.words 0 ≡ c
    → Lawful k record { words = set s.words 0 (c + count); homes = s.homes; views = set s.views id (claimed k.nodes c count v) }
claim_state k s r id count c v at fits is = let w : View = claimed k.nodes c count v in let wide = r.wide in
    let here : get_or (set s.words 0 (c + count)) 0 0 ≡ c + count = get_or-set_same s.words 0 (c + count) 0 (omega arith) in
    let len = length-append v.entries (new_entries k.nodes c count) in let len_new = length_new k.nodes c count in record {
      stage = r.stage;
      chain = r.chain;
      wide = length-set s.words 0 (c + count) ∙ r.wide;
      once = λ n. let t = sum_set (λ (u : View). times n (numbers u)) s.views id v w at in let m = numbers_claimed k.nodes c count n v in let o = r.once n in
          let z = ap (below n) here in let y = ap (below n) is in omega arith;
      counted = let t = sum_set (λ (u : View). length u.entries) s.views id v w at in let o = r.counted in omega arith;
      endowed = let t = sum_set endowment s.views id v w at in let o = r.endowed in omega arith;
      agree = views_set (λ u. Agree r.stage u.entries) s.views id w (all-append _ v.entries (new_entries k.nodes c count) (r.agree id v at) (agree_new r.stage k.nodes c count (λ n l. unclaimed k s r n (omega arith)))) (λ j u _. r.agree j u);
      told = views_set (λ u. Told r.stage u.told) s.views id w (r.told id v at) (λ j u _. r.told j u);
      seen = views_set (λ u. u.seen ≤ get_or (set s.words 0 (c + count)) 0 0) s.views id w (let l = r.seen id v at in omega arith) (λ j u _ e. let l = r.seen j u e in omega arith);
      walked = views_set (λ u. AreWalks r.stage r.chain k.pixels u.walks) s.views id w (r.walked id v at) (λ j u _. r.walked j u);
      fresh = λ n l h. r.fresh n (omega arith) h;
      lost = r.lost;
      kept = r.kept;
      payload = λ n. subst (λ (x : ℕ). Stores k.pixels x (r.stage n)) (sym (get_or-set_other s.words 0 (payload_word k.pixels n) (c + count) 0 (λ e. omega arith))) (r.payload n);
      next = λ n h. get_or-set_other s.words 0 (next_word k.pixels n) (c + count) 0 (λ e. omega arith) ∙ r.next n h;
      head = λ p h. get_or-set_other s.words 0 (head_word p) (c + count) 0 (λ e. omega arith) ∙ r.head p h;
      follows = r.follows;
      exact = r.exact;
    }

-- What holds of each number that stands among entries holds of the number of each.
pub all_standing : (P : ℕ → Type 0) (es : List Entry) → ((n : ℕ) → 0 < times n (map number_of es) → P n) → AllByRecursion (λ e. P e.number) es
all_standing P [] h = tt
all_standing P (e ∷ es) h = (h e.number (let t = ap (λ (b : Bool). cond {A = ℕ} b 1 0) (eq-eqb e.number e.number refl) in omega arith), all_standing P es (λ n l. h n (omega arith)))

-- The entries of each view are below the counter.
pub all_below : (k : FrameSize) (s : St) → Lawful k s → (id : ℕ) (v : View) → get_elem? s.views id ≡ some v → Below (slice_index s.words 0) v.entries
all_below k s r id v at = all_standing (λ n. n < slice_index s.words 0) v.entries (λ n l. let t = sum_le (λ (u : View). times n (numbers u)) s.views id v at in let o = r.once n in below_from n (slice_index s.words 0) (omega arith))

-- A pass with enough credit may claim.
pub claims : (k : FrameSize) (slots id count : ℕ) (me : Me (Unit {0}) View) → me.1 ≡ [] → count ≤ me.0.credit
    → Allows (Lawful k) slots id me 0 (λ n. (n + count) % 2 ^ 64) (λ found now. (now ≡ (claimed k.nodes found count me.0, [])) × ((found + count ≤ 2 ^ 60) × Below found me.0.entries))
claims k slots id count me bare fits s r deep at small = let c : ℕ = slice_index s.words 0 in let m = room k s r id me.0 at in
    let whole : c + count ≡ (c + count) % 2 ^ 64 = omega arith in (
      claimed k.nodes c count me.0,
      keeps,
      tt,
      subst (λ (x : ℕ). Lawful k (stepped s 0 x id me.1 (claimed k.nodes c count me.0) keeps)) whole (claim_state k s r id count c me.0 at fits refl),
      ((λ i. (claimed k.nodes c count me.0, bare i)), (omega arith, all_below k s r id me.0 at)),
    )

-- At most all entries are loose.
pub loose_le : (es : List Entry) → loose es ≤ length es
loose_le es = count_by-le-length (λ (e : Entry). is_loose e.stage) es

-- As many new entries are loose as have nodes.
loose_new : (nodes first count : ℕ) → loose (new_entries nodes first count) ≡ min count (nodes - first)
loose_new nodes first zero = omega arith
loose_new nodes first (suc count) = let r = loose_new nodes (first + 1) count in let c = count_by-cons (λ (e : Entry). is_loose e.stage) (new_entry nodes first) (new_entries nodes (first + 1) count) in ⊎_elim
    (λ (h : first < nodes). let e : is_loose (first_stage nodes first) ≡ true = ap is_loose (first_claimed nodes first h) in let z = ap (λ (b : Bool). cond {A = ℕ} b 1 0) e in omega arith)
    (λ (h : nodes ≤ first). let e : is_loose (first_stage nodes first) ≡ false = ap is_loose (first_lost nodes first h) in let z = ap (λ (b : Bool). cond {A = ℕ} b 1 0) e in omega arith) (cases_lt first nodes)

-- New entries are in range.
sound_new : (pixels nodes first count : ℕ) → AllInRange pixels nodes (new_entries nodes first count)
sound_new pixels nodes first zero = tt
sound_new pixels nodes first (suc count) = (⊎_elim (λ (h : first < nodes). subst (InRange pixels nodes first) (sym (first_claimed nodes first h)) h) (λ (h : nodes ≤ first). subst (InRange pixels nodes first) (sym (first_lost nodes first h)) h) (cases_lt first nodes), sound_new pixels nodes (first + 1) count)

-- What ties a pass to its view holds after a claim.
pub ties_claimed : (pixels nodes : ℕ) (me now : Me (Unit {0}) View) (credit own ones first count : ℕ) → Ties pixels nodes me credit own ones → count ≤ credit → now ≡ (claimed nodes first count me.0, [])
    → Ties pixels nodes now (credit - count) (own + count) (ones + min count (nodes - first))
ties_claimed pixels nodes me now credit own ones first count t fits is = subst (λ (m : Me (Unit {0}) View). Ties pixels nodes m (credit - count) (own + count) (ones + min count (nodes - first))) (sym is)
    (let len = length-append me.0.entries (new_entries nodes first count) in let len_new = length_new nodes first count in let c = t.credit_is in let o = t.own_is in let l = t.loose_is in let sm = t.small in
    let a = sum_by-append (λ (e : Entry). cond (is_loose e.stage) 1 0) me.0.entries (new_entries nodes first count) in let b = loose_new nodes first count in record {
      bare = refl;
      credit_is = omega arith;
      own_is = omega arith;
      loose_is = omega arith;
      small = omega arith;
      sound = all-append _ me.0.entries (new_entries nodes first count) t.sound (sound_new pixels nodes first count);
    })
