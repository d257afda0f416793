-- An entry goes one stage on.
use Rattle.std.proofs.Common.{◌≡◌, ◌≢◌, ℕ, ◌+◌, ◌<◌, ◌≤◌, Bool, cond, eqb, false, true≢false, List, [], ◌∷◌, ◌++◌, map, length, set, get_or, sym, refl, ap, ◌∙◌, subst, arith, ⊎_elim, length-set, get_or-set_same, get_or-set_other, slice_index, Option, Some, None, eq-eqb, ne_eqb, append_assoc}
use mathlib.Core.Option.{some}
use lib.ListN.{get_elem?}
use Rattle.std.specs.List.{AllByRecursion}
use Rattle.std.proofs.lemmas.Bool.{cases_lt, cases_eq}
use Rattle.std.proofs.lemmas.List.{length-map}
use Rattle.atomic_table.specs.Table.{Me, keeps, Allows}
use Rattle.abuf_frame.specs.declared.view.Stage.{Stage}
use Rattle.abuf_frame.specs.declared.view.Stage.TheVariants.{Claimed, Filled, Swapped, Linked, Lost}
use Rattle.abuf_frame.specs.declared.view.Entry.{Entry}
use Rattle.abuf_frame.specs.declared.view.Passed.{Passed}
use Rattle.abuf_frame.specs.declared.view.Walk.{Walk}
use Rattle.abuf_frame.specs.declared.view.View.{View}
use Rattle.abuf_frame.specs.declared.view.FrameSize.{FrameSize}
use Rattle.abuf_num.specs.Counting.{below, times}
use Rattle.abuf_frame.specs.Views.{endowment, number_of, numbers, stage_of}
use Rattle.abuf_frame.specs.Lawful.{Agree, AreWalks, Follows, Lawful, Told}
use Rattle.abuf_frame.specs.Walks.{AllPaid, Noted, head_of, node_of}
use Rattle.abuf_frame.specs.Stages.{Precedes, Stores, filled, is_linked, is_lost, linked, next_of, payload_of, stands, swapped}
use Rattle.abuf_frame.specs.Words.{head_word, next_word, payload_word}
use Rattle.abuf_frame.specs.Steps.{moved, restage}
use Rattle.abuf_num.proofs.Counting.{times-append, sum_set, sum_two, sum_le, below_le, below_from}
use Rattle.abuf_frame.proofs.Claims.{St, all_standing, views_set}

-- The stages with that of one number replaced.
abbrev pub put : (ℕ → Stage) → ℕ → Stage → ℕ → Stage
put stage n x m = cond (eqb m n) x (stage m)

-- That number has the new stage,
pub put_here : (stage : ℕ → Stage) (n : ℕ) (x : Stage) → put stage n x n ≡ x
put_here stage n x = ap (λ (b : Bool). cond b x (stage n)) (eq-eqb n n refl)

-- and each other its old one.
pub put_else : (stage : ℕ → Stage) (n m : ℕ) (x : Stage) → m ≢ n → put stage n x m ≡ stage m
put_else stage n m x h = ap (λ (b : Bool). cond b x (stage m)) (ne_eqb m n h)

-- what is the same of the new stage is the same of all
pub put_same : {A : Type 0} (F : Stage → A) (stage : ℕ → Stage) (n m : ℕ) (x : Stage) → F x ≡ F (stage n) → F (put stage n x m) ≡ F (stage m)
put_same F stage n m x h = ⊎_elim (λ (e : m ≡ n). ap (λ (i : ℕ). F (put stage n x i)) e ∙ (ap F (put_here stage n x) ∙ (h ∙ ap (λ (i : ℕ). F (stage i)) (sym e)))) (λ (e : m ≢ n). ap F (put_else stage n m x e)) (cases_eq m n)

-- a fact of each number, from that of n and of the others
pub put_all : (P : ℕ → Stage → Type 0) (stage : ℕ → Stage) (n : ℕ) (x : Stage) → P n x → ((m : ℕ) → m ≢ n → P m (stage m)) → (m : ℕ) → P m (put stage n x m)
put_all P stage n x here there m = ⊎_elim (λ (e : m ≡ n). subst (λ (i : ℕ). P i (put stage n x i)) (sym e) (subst (P n) (sym (put_here stage n x)) here)) (λ (e : m ≢ n). subst (P m) (sym (put_else stage n m x e)) (there m e)) (cases_eq m n)

-- A chain stays one if the new stage precedes what the old one did.
follows_put : (stage : ℕ → Stage) (n : ℕ) (x : Stage) (p : ℕ) → ((h : ℕ) → Precedes (stage n) p h → Precedes x p h) → (ns : List ℕ) → Follows stage p ns → Follows (put stage n x) p ns
follows_put stage n x p keep [] f = tt
follows_put stage n x p keep (m ∷ ms) f = (put_all (λ i y. i ≡ m → Precedes y p (head_of ms)) stage n x (λ e. keep (head_of ms) (subst (λ (i : ℕ). Precedes (stage i) p (head_of ms)) (sym e) f.0)) (λ i _ e. subst (λ (j : ℕ). Precedes (stage j) p (head_of ms)) (sym e) f.0) m refl, follows_put stage n x p keep ms f.1)

-- An entry that goes on keeps the numbers.
numbers_restage : (n : ℕ) (f : Stage → Stage) (es : List Entry) → map number_of (restage n f es) ≡ map number_of es
numbers_restage n f [] = refl
numbers_restage n f (e ∷ es) = ap (λ (l : List ℕ). e.number ∷ l) (numbers_restage n f es)

-- It keeps how many there are.
pub length_restage : (n : ℕ) (f : Stage → Stage) (es : List Entry) → length (restage n f es) ≡ length es
length_restage n f es = let a = length-map (restage n f es) number_of in let b = length-map es number_of in let c = ap (λ (l : List ℕ). length l) (numbers_restage n f es) in omega arith

-- Entries agree with the stages after one went on in both.
agree_restage : (stage : ℕ → Stage) (n : ℕ) (f : Stage → Stage) (es : List Entry) → Agree stage es → Agree (put stage n (f (stage n))) (restage n f es)
agree_restage stage n f [] a = tt
agree_restage stage n f (e ∷ es) a = (
  ap (λ (y : Stage). cond (eqb e.number n) (f y) y) a.0
      ∙ ⊎_elim (λ (h : e.number ≡ n). ap (λ (m : ℕ). cond (eqb e.number n) (f (stage m)) (stage e.number)) h) (λ (h : e.number ≢ n). let t = ne_eqb e.number n h in ap (λ (b : Bool). cond b (f (stage e.number)) (stage e.number)) t ∙ sym (ap (λ (b : Bool). cond b (f (stage n)) (stage e.number)) t)) (cases_eq e.number n),
  agree_restage stage n f es a.1,
)

-- What holds of each entry holds of one that is found.
pub found : (P : ℕ → Stage → Type 0) (n : ℕ) (es : List Entry) (y : Stage) → AllByRecursion (λ e. P e.number e.stage) es → stage_of n es ≡ Some y → P n y
found P n [] y a f = absurd (cc)
found P n (e ∷ es) y a f = ⊎_elim (λ (h : e.number ≡ n). let t = eq-eqb e.number n h in let g : Some e.stage ≡ Some y = subst (λ (b : Bool). cond b (Some e.stage) (stage_of n es) ≡ Some y) t f in let same : e.stage ≡ y = cc in subst (P n) same (subst (λ (m : ℕ). P m e.stage) h a.0))
    (λ (h : e.number ≢ n). let t = ne_eqb e.number n h in found P n es y a.1 (subst (λ (b : Bool). cond b (Some e.stage) (stage_of n es) ≡ Some y) t f)) (cases_eq e.number n)

-- A number whose entry is found stands among the entries.
one_at_least : (n : ℕ) (es : List Entry) (y : Stage) → stage_of n es ≡ Some y → 0 < times n (map number_of es)
one_at_least n es y f = found (λ m _. 0 < times m (map number_of es)) n es y (all_standing (λ m. 0 < times m (map number_of es)) es (λ m l. l)) f

-- Entries without the number agree whatever its stage is.
agree_other : (stage : ℕ → Stage) (n : ℕ) (x : Stage) (es : List Entry) → times n (map number_of es) ≡ 0 → Agree stage es → Agree (put stage n x) es
agree_other stage n x [] t a = tt
agree_other stage n x (e ∷ es) t a = ⊎_elim (λ (h : e.number ≡ n). let z = ap (λ (b : Bool). cond {A = ℕ} b 1 0) (eq-eqb e.number n h) in absurd (omega arith))
    (λ (h : e.number ≢ n). (a.0 ∙ sym (put_else stage n e.number x h), agree_other stage n x es (omega arith) a.1)) (cases_eq e.number n)

-- What was told of isn't the number that goes on, since it is linked.
told_put : (stage : ℕ → Stage) (n : ℕ) (x : Stage) (es : List Entry) → is_linked (stage n) ≡ false → Told stage es → Told (put stage n x) es
told_put stage n x [] f t = tt
told_put stage n x (e ∷ es) f t = let other : e.number ≢ n = λ h. true≢false (sym t.0.1 ∙ (ap is_linked (t.0.0 ∙ ap stage h) ∙ f)) in ((t.0.0 ∙ sym (put_else stage n e.number x other), t.0.1), told_put stage n x es f t.1)

-- Payloads that were passed stay right where no stage changes its payload.
paid_put : (stage stage' : ℕ → Stage) (xs : List Passed) → ((m : ℕ) → 0 < times m (map node_of xs) → payload_of (stage' m) ≡ payload_of (stage m)) → AllPaid stage xs → AllPaid stage' xs
paid_put stage stage' [] h p = tt
paid_put stage stage' (x ∷ xs) h p = (p.0 ∙ sym (h x.node (let t = ap (λ (b : Bool). cond {A = ℕ} b 1 0) (eq-eqb x.node x.node refl) in omega arith)), paid_put stage stage' xs (λ m l. h m (omega arith)) p.1)

-- So does the payload that is noted.
noted_put : (stage stage' : ℕ → Stage) (o : Option ℕ) (ns : List ℕ) → ((m : ℕ) → 0 < times m ns → payload_of (stage' m) ≡ payload_of (stage m)) → Noted stage o ns → Noted stage' o ns
noted_put stage stage' None ns h p = tt
noted_put stage stage' (Some y) [] h p = p
noted_put stage stage' (Some y) (n ∷ ns) h p = p ∙ sym (h n (let t = ap (λ (b : Bool). cond {A = ℕ} b 1 0) (eq-eqb n n refl) in omega arith))

-- lists grow at the front, and their payloads stay
walks_put : (stage stage' : ℕ → Stage) (chain chain' : ℕ → List ℕ) (pixels : ℕ) → ((p : ℕ) → p < pixels → (new : List ℕ) × (chain' p ≡ new ++ chain p))
    → ((p m : ℕ) → p < pixels → 0 < times m (chain p) → payload_of (stage' m) ≡ payload_of (stage m)) → (ws : List Walk) → AreWalks stage chain pixels ws → AreWalks stage' chain' pixels ws
walks_put stage stage' chain chain' pixels grow keep [] a = tt
walks_put stage stage' chain chain' pixels grow keep (w ∷ ws) a = let o = a.0 in let g = grow w.pixel o.on in let t : List ℕ = map node_of w.passed in (
  record {
    on = o.on;
    before = g.0 ++ o.before;
    rest = o.rest;
    suffix = g.1 ∙ (ap (λ (l : List ℕ). g.0 ++ l) o.suffix ∙ sym (append_assoc g.0 o.before (map node_of w.passed ++ o.rest)));
    stands_at = o.stands_at;
    paid = paid_put stage stage' w.passed (λ m l. keep w.pixel m o.on (let e = ap (times m) o.suffix in let f = times-append m o.before (t ++ o.rest) in let h = times-append m t o.rest in omega arith)) o.paid;
    note = noted_put stage stage' w.noted o.rest (λ m l. keep w.pixel m o.on (let e = ap (times m) o.suffix in let f = times-append m o.before (t ++ o.rest) in let h = times-append m t o.rest in omega arith)) o.note;
    marked = o.marked;
    due = o.due;
  },
  walks_put stage stage' chain chain' pixels grow keep ws a.1,
)

module _ (k : FrameSize) (s : St) (r : Lawful k s) (id n : ℕ) (v : View) (at : get_elem? s.views id ≡ some v) (y : Stage) (has : stage_of n v.entries ≡ Some y) (there : is_lost y ≡ false) (under_way : is_linked y ≡ false) where
  -- The number has the stage that was found.
  is_here : r.stage n ≡ y
  is_here = sym (found (λ m x. x ≡ r.stage m) n v.entries y (r.agree id v at) has)

  -- It was claimed.
  inside : n < slice_index s.words 0
  inside = let a = one_at_least n v.entries y has in let b = sum_le (λ (u : View). times n (numbers u)) s.views id v at in let c = r.once n in below_from n (slice_index s.words 0) (omega arith)

  -- It has a node.
  a_node : n < k.nodes
  a_node = ⊎_elim (λ (h : n < k.nodes). h) (λ (h : k.nodes ≤ n). absurd (true≢false (ap is_lost (sym (r.lost n h) ∙ is_here) ∙ there))) (cases_lt n k.nodes)

  -- It stands once among the entries of its view.
  one_here : times n (numbers v) ≡ 1
  one_here = let a = one_at_least n v.entries y has in let b = sum_le (λ (u : View). times n (numbers u)) s.views id v at in let c = r.once n in let d = below_le n (slice_index s.words 0) in omega arith

  -- the others do not have it
  elsewhere : (j : ℕ) (u : View) → j ≢ id → get_elem? s.views j ≡ some u → times n (numbers u) ≡ 0
  elsewhere j u other e = let a = one_at_least n v.entries y has in let b = sum_two (λ (w : View). times n (numbers w)) s.views j id u v other e at in let c = r.once n in let d = below_le n (slice_index s.words 0) in omega arith

  -- A state stays lawful when a number goes on and the words and chains with it.
  moves : (f : Stage → Stage) (x : Stage) → f y ≡ x → is_lost x ≡ false → (words' : List ℕ) (chain' : ℕ → List ℕ) → length words' ≡ length s.words → slice_index words' 0 ≡ slice_index s.words 0
      → ((m : ℕ) → Stores k.pixels (slice_index words' (payload_word k.pixels m)) (put r.stage n x m))
      → ((m : ℕ) → m < k.nodes → slice_index words' (next_word k.pixels m) ≡ next_of (put r.stage n x m))
      → ((p : ℕ) → p < k.pixels → slice_index words' (head_word p) ≡ head_of (chain' p))
      → ((p : ℕ) → p < k.pixels → Follows (put r.stage n x) p (chain' p))
      → ((p m : ℕ) → p < k.pixels → times m (chain' p) ≡ stands p (put r.stage n x m))
      → ((p : ℕ) → p < k.pixels → (new : List ℕ) × (chain' p ≡ new ++ r.chain p)) → ((p m : ℕ) → p < k.pixels → 0 < times m (r.chain p) → payload_of (put r.stage n x m) ≡ payload_of (r.stage m))
      → Lawful k record { words = words'; homes = s.homes; views = set s.views id (moved n f v) }
  moves f x to lives words' chain' len zero_is pay nxt hd fol ex grow keep = let w : View = moved n f v in record {
    stage = put r.stage n x;
    chain = chain';
    wide = len ∙ r.wide;
    once = λ m. let t = sum_set (λ (u : View). times m (numbers u)) s.views id v w at in let e = ap (times m) (numbers_restage n f v.entries) in let o = r.once m in let z = ap (below m) zero_is in omega arith;
    counted = let t = sum_set (λ (u : View). length u.entries) s.views id v w at in let e = length_restage n f v.entries in let o = r.counted in omega arith;
    endowed = let t = sum_set endowment s.views id v w at in let e = length_restage n f v.entries in let o = r.endowed in omega arith;
    agree = views_set (λ u. Agree (put r.stage n x) u.entries) s.views id w (subst (λ (z : Stage). Agree (put r.stage n z) (restage n f v.entries)) (ap f is_here ∙ to) (agree_restage r.stage n f v.entries (r.agree id v at))) (λ j u other e. agree_other r.stage n x u.entries (elsewhere j u other e) (r.agree j u e));
    told = let open_now = ap is_linked is_here ∙ under_way in views_set (λ u. Told (put r.stage n x) u.told) s.views id w (told_put r.stage n x v.told open_now (r.told id v at)) (λ j u other e. told_put r.stage n x u.told open_now (r.told j u e));
    seen = views_set (λ u. u.seen ≤ slice_index words' 0) s.views id w (let l = r.seen id v at in omega arith) (λ j u other e. let l = r.seen j u e in omega arith);
    walked = let kept_walks = walks_put r.stage (put r.stage n x) r.chain chain' k.pixels grow keep in views_set (λ u. AreWalks (put r.stage n x) chain' k.pixels u.walks) s.views id w (kept_walks v.walks (r.walked id v at)) (λ j u other e. kept_walks u.walks (r.walked j u e));
    fresh = put_all (λ m y. slice_index words' 0 ≤ m → m < k.nodes → y ≡ Claimed) r.stage n x (λ a. let i = inside in absurd (omega arith)) (λ m other a. r.fresh m (omega arith));
    lost = put_all (λ m y. k.nodes ≤ m → y ≡ Lost) r.stage n x (λ a. let i = a_node in absurd (omega arith)) (λ m other. r.lost m);
    kept = put_all (λ m y. m < k.nodes → is_lost y ≡ false) r.stage n x (λ _. lives) (λ m other. r.kept m);
    payload = pay;
    next = nxt;
    head = hd;
    follows = fol;
    exact = ex;
  }

  -- A fill keeps the state lawful.
  fill_state : (p z : ℕ) → y ≡ Claimed → p < k.pixels → Lawful k record { words = set s.words (payload_word k.pixels n) z; homes = s.homes; views = set s.views id (moved n (filled p z) v) }
  fill_state p z was on = let i : ℕ = payload_word k.pixels n in let now = is_here ∙ was in let a = a_node in let wide = r.wide in
      let other : (j : ℕ) → j ≢ i → get_or (set s.words i z) j 0 ≡ get_or s.words j 0 = λ j e. get_or-set_other s.words i j z 0 e in
      moves (filled p z) (Filled p z) (ap (filled p z) was) refl (set s.words i z) r.chain (length-set s.words i z) (other 0 (λ e. omega arith))
      (put_all (λ m x. Stores k.pixels (get_or (set s.words i z) (payload_word k.pixels m) 0) x) r.stage n (Filled p z) (on, get_or-set_same s.words i z 0 (omega arith))
      (λ m e. subst (λ (x : ℕ). Stores k.pixels x (r.stage m)) (sym (other (payload_word k.pixels m) (λ h. e (omega arith)))) (r.payload m)))
      (λ m l. other (next_word k.pixels m) (λ h. omega arith) ∙ (r.next m l ∙ sym (put_same next_of r.stage n m (Filled p z) (sym (ap next_of now)))))
      (λ q l. other (head_word q) (λ h. omega arith) ∙ r.head q l)
      (λ q l. follows_put r.stage n (Filled p z) q (λ h c. subst (λ x. Precedes x q h) now c) (r.chain q) (r.follows q l))
      (λ q m l. r.exact q m l ∙ sym (put_same (stands q) r.stage n m (Filled p z) (sym (ap (stands q) now))))
      (λ q l. ([], refl)) (λ q m l h. ⊎_elim (λ (e : m ≡ n). let a = r.exact q m l in let b = ap (λ (i : ℕ). stands q (r.stage i)) e in let c = ap (stands q) now in absurd (omega arith)) (λ (e : m ≢ n). ap payload_of (put_else r.stage n m (Filled p z) e)) (cases_eq m n))

  -- A swap keeps the state lawful.
  swap_state : (p z old : ℕ) → y ≡ Filled p z → p < k.pixels → slice_index s.words (head_word p) ≡ old → Lawful k record { words = set s.words (head_word p) (n + 1); homes = s.homes; views = set s.views id (moved n (swapped old) v) }
  swap_state p z old was on is = let i : ℕ = head_word p in let now = is_here ∙ was in let a = a_node in let wide = r.wide in let x' : Stage = Swapped p z old in
      let chain' : ℕ → List ℕ = λ q. cond (eqb q p) (n ∷ r.chain p) (r.chain q) in
      let chain_here : (q : ℕ) → q ≡ p → chain' q ≡ n ∷ r.chain p = λ q e. ap (λ (b : Bool). cond b (n ∷ r.chain p) (r.chain q)) (eq-eqb q p e) in
      let chain_else : (q : ℕ) → q ≢ p → chain' q ≡ r.chain q = λ q e. ap (λ (b : Bool). cond b (n ∷ r.chain p) (r.chain q)) (ne_eqb q p e) in
      let other : (j : ℕ) → j ≢ i → get_or (set s.words i (n + 1)) j 0 ≡ get_or s.words j 0 = λ j e. get_or-set_other s.words i j (n + 1) 0 e in
      let kept : (q : ℕ) (ns : List ℕ) → Follows r.stage q ns → Follows (put r.stage n x') q ns = λ q. follows_put r.stage n x' q (λ h c. absurd (subst (λ x. Precedes x q h) now c)) in
      let carried : (p < k.pixels) × (get_or s.words (payload_word k.pixels n) 0 ≡ z) = subst (Stores k.pixels (get_or s.words (payload_word k.pixels n) 0)) now (r.payload n) in
      moves (swapped old) x' (ap (swapped old) was) refl (set s.words i (n + 1)) chain' (length-set s.words i (n + 1)) (other 0 (λ e. omega arith))
      (put_all (λ m x. Stores k.pixels (get_or (set s.words i (n + 1)) (payload_word k.pixels m) 0) x) r.stage n x' (on, other (payload_word k.pixels n) (λ h. omega arith) ∙ carried.1)
      (λ m e. subst (λ (x : ℕ). Stores k.pixels x (r.stage m)) (sym (other (payload_word k.pixels m) (λ h. omega arith))) (r.payload m)))
      (λ m l. other (next_word k.pixels m) (λ h. omega arith) ∙ (r.next m l ∙ sym (put_same next_of r.stage n m x' (sym (ap next_of now)))))
      (λ q l. ⊎_elim (λ (e : q ≡ p). ap (λ (j : ℕ). get_or (set s.words i (n + 1)) (head_word j) 0) e ∙ (get_or-set_same s.words i (n + 1) 0 (omega arith) ∙ sym (ap head_of (chain_here q e))))
      (λ (e : q ≢ p). other (head_word q) (λ h. e (omega arith)) ∙ (r.head q l ∙ sym (ap head_of (chain_else q e)))) (cases_eq q p))
      (λ q l. ⊎_elim (λ (e : q ≡ p). subst (Follows (put r.stage n x') q) (sym (chain_here q e))
      (subst (λ x. Precedes x q (head_of (r.chain p))) (sym (put_here r.stage n x')) (sym e, sym is ∙ r.head p on), kept q (r.chain p) (subst (λ (j : ℕ). Follows r.stage j (r.chain p)) (sym e) (r.follows p on))))
      (λ (e : q ≢ p). subst (Follows (put r.stage n x') q) (sym (chain_else q e)) (kept q (r.chain q) (r.follows q l))) (cases_eq q p))
      (λ q m l. ⊎_elim (λ (e : q ≡ p). ap (times m) (chain_here q e) ∙ (put_all (λ i x. cond {A = ℕ} (eqb n i) 1 0 + times i (r.chain p) ≡ stands q x) r.stage n x'
      (let t = eq-eqb n n refl in let u = r.exact p n on in let w = ap (stands p) now in let g = ap (λ (b : Bool). cond {A = ℕ} b 1 0) t in let f = ap (λ (b : Bool). cond {A = ℕ} b 1 0) (eq-eqb p q (sym e)) in omega arith)
      (λ i o. let t = ne_eqb n i (λ h. o (sym h)) in let u = r.exact p i on in let g = ap (λ (b : Bool). cond {A = ℕ} b 1 0) t in let f = ap (λ (j : ℕ). stands j (r.stage i)) e in omega arith) m))
      (λ (e : q ≢ p). ap (times m) (chain_else q e) ∙ (r.exact q m l ∙ sym (put_same (stands q) r.stage n m x'
      (let f = ap (λ (b : Bool). cond {A = ℕ} b 1 0) (ne_eqb p q (λ h. e (sym h))) in f ∙ sym (ap (stands q) now))))) (cases_eq q p))
      (λ q l. ⊎_elim (λ (e : q ≡ p). (n ∷ [], chain_here q e ∙ ap (λ (j : ℕ). n ∷ r.chain j) (sym e))) (λ (e : q ≢ p). ([], chain_else q e)) (cases_eq q p))
      (λ q m l h. put_same payload_of r.stage n m x' (sym (ap payload_of now)))

  -- A link keeps the state lawful.
  link_state : (p z old : ℕ) → y ≡ Swapped p z old → Lawful k record { words = set s.words (next_word k.pixels n) old; homes = s.homes; views = set s.views id (moved n linked v) }
  link_state p z old was = let i : ℕ = next_word k.pixels n in let now = is_here ∙ was in let a = a_node in let wide = r.wide in let x' : Stage = Linked p z old in
      let other : (j : ℕ) → j ≢ i → get_or (set s.words i old) j 0 ≡ get_or s.words j 0 = λ j e. get_or-set_other s.words i j old 0 e in
      let carried : (p < k.pixels) × (get_or s.words (payload_word k.pixels n) 0 ≡ z) = subst (Stores k.pixels (get_or s.words (payload_word k.pixels n) 0)) now (r.payload n) in
      moves linked x' (ap linked was) refl (set s.words i old) r.chain (length-set s.words i old) (other 0 (λ e. omega arith))
      (put_all (λ m x. Stores k.pixels (get_or (set s.words i old) (payload_word k.pixels m) 0) x) r.stage n x' (carried.0, other (payload_word k.pixels n) (λ h. omega arith) ∙ carried.1)
      (λ m e. subst (λ (x : ℕ). Stores k.pixels x (r.stage m)) (sym (other (payload_word k.pixels m) (λ h. omega arith))) (r.payload m)))
      (put_all (λ m x. m < k.nodes → get_or (set s.words i old) (next_word k.pixels m) 0 ≡ next_of x) r.stage n x' (λ _. get_or-set_same s.words i old 0 (omega arith))
      (λ m e l. other (next_word k.pixels m) (λ h. e (omega arith)) ∙ r.next m l))
      (λ q l. other (head_word q) (λ h. omega arith) ∙ r.head q l)
      (λ q l. follows_put r.stage n x' q (λ h c. subst (λ x. Precedes x q h) now c) (r.chain q) (r.follows q l))
      (λ q m l. r.exact q m l ∙ sym (put_same (stands q) r.stage n m x' (sym (ap (stands q) now))))
      (λ q l. ([], refl)) (λ q m l h. put_same payload_of r.stage n m x' (sym (ap payload_of now)))

module _ (k : FrameSize) (slots id n : ℕ) (me : Me (Unit {0}) View) (bare : me.1 ≡ []) where
  -- A pass may fill a number that it has claimed.
  pub fills : (p z : ℕ) → stage_of n me.0.entries ≡ Some Claimed → p < k.pixels
      → Allows (Lawful k) slots id me (payload_word k.pixels n) (λ _. z) (λ _ now. (now ≡ (moved n (filled p z) me.0, [])) × Unit {0})
  fills p z has on s r deep at small = (moved n (filled p z) me.0, keeps, tt, fill_state k s r id n me.0 at Claimed has refl refl p z refl on, ((λ i. (moved n (filled p z) me.0, bare i)), tt))

  -- A pass may swap one that it has filled.
  pub swaps : (p z : ℕ) → stage_of n me.0.entries ≡ Some (Filled p z) → p < k.pixels
      → Allows (Lawful k) slots id me (head_word p) (λ _. n + 1) (λ found now. (now ≡ (moved n (swapped found) me.0, [])) × Unit {0})
  swaps p z has on s r deep at small = let old : ℕ = slice_index s.words (head_word p) in (moved n (swapped old) me.0, keeps, tt, swap_state k s r id n me.0 at (Filled p z) has refl refl p z old refl on refl, ((λ i. (moved n (swapped old) me.0, bare i)), tt))

  -- A pass may link one that it has swapped.
  pub links : (p z old : ℕ) → stage_of n me.0.entries ≡ Some (Swapped p z old)
      → Allows (Lawful k) slots id me (next_word k.pixels n) (λ _. old) (λ _ now. (now ≡ (moved n linked me.0, [])) × (times n (numbers me.0) ≡ 1))
  links p z old has s r deep at small = (moved n linked me.0, keeps, tt, link_state k s r id n me.0 at (Swapped p z old) has refl refl p z old refl, ((λ i. (moved n linked me.0, bare i)), one_here k s r id n me.0 at (Swapped p z old) has refl refl))
