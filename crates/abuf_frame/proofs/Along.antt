-- A walk along a list: what is known at each node.
use Rattle.std.proofs.Common.{◌≡◌, ◌≢◌, ℕ, ◌+◌, ◌-◌, ◌^◌, ◌<◌, ◌≤◌, Bool, true, false, List, [], ◌∷◌, ◌++◌, map, length, set, get_or, drop, sym, refl, ap, ◌∙◌, subst, arith, length-append, length-set, None, eq-eqb, ne_eqb, append_assoc, append-nil, take}
use Rattle.std.proofs.Math.Seq.{drop-length, take-append_seam}
use mathlib.Core.List.{map-append}
use Rattle.std.proofs.lemmas.List.{length-map, drop_more, set_at}
use Rattle.atomic_table.specs.Table.{Me, Allows}
use Rattle.abuf_frame.specs.declared.view.Walk.{Walk}
use Rattle.abuf_frame.specs.declared.view.View.{View}
use Rattle.abuf_frame.specs.declared.view.FrameSize.{FrameSize}
use Rattle.abuf_frame.specs.declared.look.Look.TheVariants.{All, More, Unlinked}
use Rattle.abuf_frame.specs.Chains.{IsListAt}
use Rattle.abuf_frame.specs.Look.{Looked, ShowsList, Written}
use Rattle.abuf_frame.specs.Walks.{AllMet, IsNoted, LastHasNoted, OnLast, going, gone, noting, payload_at, walked_on, with_walk}
use Rattle.abuf_frame.specs.Lawful.{Lawful}
use Rattle.abuf_frame.specs.Views.{due_of, endowment, loose}
use Rattle.abuf_frame.specs.Words.{mark, next_word, payload_word}
use Rattle.abuf_frame.proofs.Looks.{SeesList, Shown, looks_next, looks_payload, on_last-snoc, on_last_is, sees_whole}

pub record Going (pixel nodes : ℕ) (v : View) (old out : List ℕ) (here count : ℕ) (me : Me (Unit {0}) View) : Type 0 where
  pub walk : Walk
  pub is : me ≡ (with_walk walk v, [])
  pub pixel_is : walk.pixel ≡ pixel
  pub due_is : walk.due ≡ due_of pixel v
  pub cursor_is : walk.cursor ≡ here
  pub blank : walk.noted ≡ None
  pub count_is : count ≡ length walk.passed
  pub written : Written walk old out
  pub small : here ≤ nodes
  pub few : count ≤ nodes
  pub met : here ≡ 0 → AllMet walk
  pub lists : SeesList v walk

-- At the end of its list the count is that of the nodes passed, and all that were due were passed.
pub reaches_end : (pixel nodes : ℕ) (v : View) (old out : List ℕ) (here count : ℕ) (me : Me (Unit {0}) View) → Going pixel nodes v old out here count me → here ≡ 0
    → (w : Walk) × (me ≡ (with_walk w v, [])) × Looked pixel v old out (All count) w
reaches_end pixel nodes v old out here count me g ended = (g.walk, g.is, record { here = g.pixel_is; due = g.due_is; answer = (g.cursor_is ∙ ended, g.count_is, g.met ended); written = g.written; whole = sees_whole v g.walk g.lists })

-- what a whole, settled pass finds at the end
pub ends_list : (pixel nodes : ℕ) (v : View) (old out : List ℕ) (here count : ℕ) (me : Me (Unit {0}) View) → Going pixel nodes v old out here count me → here ≡ 0
    → endowment v ≡ 2 ^ 60 → loose v.entries ≡ 0 → (list : List ℕ) × IsListAt pixel v.entries list × ShowsList (All count) list out
ends_list pixel nodes v old out here count me g ended whole settled = let l = g.lists whole settled in let p : List ℕ = map payload_at g.walk.passed in
    let all : l.0 ≡ p = l.3 ∙ (ap (λ (r : List ℕ). p ++ r) (l.4 (g.cursor_is ∙ ended)) ∙ append-nil p) in
    let long : count ≡ length p = g.count_is ∙ sym (length-map g.walk.passed payload_at) in (
      l.0,
      subst (λ (q : ℕ). IsListAt q v.entries l.0) g.pixel_is l.2,
      (long ∙ sym (ap (λ (m : List ℕ). length m) all), ap (λ (n : ℕ). take n out) long ∙ (ap (take (length p)) g.written.2 ∙ (take-append_seam p (drop (length g.walk.passed) old) ∙ sym all))),
    )

-- and where the slice is full
pub full_list : (pixel nodes : ℕ) (v : View) (old out : List ℕ) (here count : ℕ) (me : Me (Unit {0}) View) → Going pixel nodes v old out here count me → here ≢ 0 → count ≡ length out
    → endowment v ≡ 2 ^ 60 → loose v.entries ≡ 0 → (list : List ℕ) × IsListAt pixel v.entries list × ShowsList More list out
full_list pixel nodes v old out here count me g away full whole settled = let l = g.lists whole settled in let p : List ℕ = map payload_at g.walk.passed in
    let long : count ≡ length p = g.count_is ∙ sym (length-map g.walk.passed payload_at) in let more = l.5 (λ e. away (sym g.cursor_is ∙ e)) in
    let same : length g.walk.passed ≡ length old = sym g.count_is ∙ (full ∙ g.written.0) in
    let is : out ≡ p = g.written.2 ∙ (ap (λ (n : ℕ). p ++ drop n old) same ∙ (ap (λ (r : List ℕ). p ++ r) (drop-length old) ∙ append-nil p)) in (
      l.0,
      subst (λ (q : ℕ). IsListAt q v.entries l.0) g.pixel_is l.2,
      ((let a = ap (λ (m : List ℕ). length m) l.3 in let b = length-append p l.1 in let c = ap (λ (m : List ℕ). length m) is in omega arith), ap (λ (m : List ℕ). take (length m) l.0) is ∙ (ap (take (length p)) l.3 ∙ (take-append_seam p l.1 ∙ sym is))),
    )

module _ (pixel nodes : ℕ) (v : View) (old out : List ℕ) (here count : ℕ) (me : Me (Unit {0}) View) (g : Going pixel nodes v old out here count me) (away : here ≢ 0) where
  -- A load of the payload at the cursor, which is noted, is allowed.
  pub may_note : (k : FrameSize) (slots id : ℕ) → Allows (Lawful k) slots id me (payload_word k.pixels (here - 1)) (λ n. n) (λ found now. (now ≡ (walked_on (noting found) me.0, [])) × Unit {0})
  may_note k slots id = subst (λ (i : ℕ). Allows (Lawful k) slots id me (payload_word k.pixels (i - 1)) (λ n. n) (λ found now. (now ≡ (walked_on (noting found) me.0, [])) × Unit {0})) g.cursor_is
      (looks_payload k slots id me (ap (λ (m : Me (Unit {0}) View). m.1) g.is) v.walks g.walk (ap (λ (m : Me (Unit {0}) View). m.0.walks) g.is) (λ e. away (sym g.cursor_is ∙ e)))

  -- Where the slice is full at a further node, the look answers `More`.
  pub stops_full : count ≡ length out → (w : Walk) × (me ≡ (with_walk w v, [])) × Looked pixel v old out More w
  stops_full full = let b = g.written.0 in let c = g.count_is in
      (g.walk, g.is, record { here = g.pixel_is; due = g.due_is; answer = ((λ e. away (sym g.cursor_is ∙ e)), omega arith); written = g.written; whole = sees_whole v g.walk g.lists })

  module _ (y : ℕ) (m1 : Me (Unit {0}) View) (is1 : m1 ≡ (walked_on (noting y) me.0, [])) where
    -- After the load of the payload the walk has noted it.
    noted_walk : m1 ≡ (with_walk (noting y g.walk) v, [])
    noted_walk = is1 ∙ (ap (λ (m : Me (Unit {0}) View). (walked_on (noting y) m.0, [])) g.is ∙ λ i. (record { credit = v.credit; entries = v.entries; told = v.told; seen = v.seen; walks = on_last-snoc (noting y) v.walks g.walk i }, []))

    -- The walk that has noted it is the last of the view's.
    last1 : m1.0.walks ≡ v.walks ++ noting y g.walk ∷ []
    last1 = ap (λ (m : Me (Unit {0}) View). m.0.walks) noted_walk

    -- So the last walk has noted a payload.
    pub has_noted : LastHasNoted m1.0.walks
    has_noted = subst LastHasNoted (sym last1) (subst (λ (T : Type 0). T) (sym (on_last_is (λ (w : Walk). IsNoted w.noted) v.walks (noting y g.walk))) tt)

    -- A load of the next of that node is allowed.
    pub may_go : (k : FrameSize) (slots id : ℕ) → k.nodes < mark
        → Allows (Lawful k) slots id m1 (next_word k.pixels (here - 1)) (λ n. n) (λ found now. (now ≡ (walked_on (going found) m1.0, [])) × OnLast (λ (w : Walk). Shown k.nodes m1.0 w found) m1.0.walks)
    may_go k slots id few = subst (λ (i : ℕ). Allows (Lawful k) slots id m1 (next_word k.pixels (i - 1)) (λ n. n) (λ found now. (now ≡ (walked_on (going found) m1.0, [])) × OnLast (λ (w : Walk). Shown k.nodes m1.0 w found) m1.0.walks)) g.cursor_is
        (looks_next k slots id m1 (ap (λ (m : Me (Unit {0}) View). m.1) is1) v.walks (noting y g.walk) last1 (λ e. away (sym g.cursor_is ∙ e)) y refl few)

    module _ (found : ℕ) (m2 : Me (Unit {0}) View) (is2 : m2 ≡ (walked_on (going found) m1.0, [])) (shows : OnLast (λ (w : Walk). Shown nodes m1.0 w found) m1.0.walks) where
      gone_walk : m2 ≡ (with_walk (going found (noting y g.walk)) v, [])
      gone_walk = is2 ∙ (ap (λ (m : Me (Unit {0}) View). (walked_on (going found) m.0, [])) noted_walk ∙ λ i. (record { credit = v.credit; entries = v.entries; told = v.told; seen = v.seen; walks = on_last-snoc (going found) v.walks (noting y g.walk) i }, []))

      told_more : Shown nodes m1.0 (noting y g.walk) found
      told_more = subst (λ (T : Type 0). T) (on_last_is (λ (w : Walk). Shown nodes m1.0 w found) v.walks (noting y g.walk)) (subst (OnLast (λ (w : Walk). Shown nodes m1.0 w found)) last1 shows)

      went : found ≢ mark → going found (noting y g.walk) ≡ gone false found (noting y g.walk)
      went h = ap (λ (b : Bool). gone b found (noting y g.walk)) (ne_eqb found mark h)

      due_now : g.walk.due ≡ due_of g.walk.pixel m1.0
      due_now = let e : m1.0 ≡ with_walk (noting y g.walk) v = ap (λ (m : Me (Unit {0}) View). m.0) noted_walk in subst (λ (u : View). g.walk.due ≡ due_of g.walk.pixel u) (sym e) (g.due_is ∙ ap (λ (p : ℕ). due_of p v) (sym g.pixel_is))

      lists_now : SeesList v (going found (noting y g.walk))
      lists_now = let e : m1.0 ≡ with_walk (noting y g.walk) v = ap (λ (m : Me (Unit {0}) View). m.0) noted_walk in subst (λ (u : View). SeesList u (going found (noting y g.walk))) e (told_more.lists due_now)

      pub goes_on : found ≢ mark → count < length old → Going pixel nodes v old (set out count y) found (count + 1) m2
      goes_on h room = let p : List ℕ = map payload_at g.walk.passed in let c = g.count_is in let lp : length p ≡ count = length-map g.walk.passed payload_at ∙ sym c in let len = length-append g.walk.passed (record { node = g.walk.cursor - 1; payload = y } ∷ []) in let sh = told_more in let wi = sh.within h in record {
        walk = gone false found (noting y g.walk);
        is = gone_walk ∙ ap (λ (w : Walk). (with_walk w v, [])) (went h);
        pixel_is = g.pixel_is;
        due_is = g.due_is;
        cursor_is = refl;
        blank = refl;
        count_is = omega arith;
        written = (
          length-set out count y ∙ g.written.0,
          omega arith,
          (let d = drop_more old count 0 room in let same : length g.walk.passed + 1 ≡ length (g.walk.passed ++ record { node = g.walk.cursor - 1; payload = y } ∷ []) = sym len in
              ap (λ (l : List ℕ). set l count y) (g.written.2 ∙ (ap (λ (n : ℕ). p ++ drop n old) (sym c) ∙ ap (λ (l : List ℕ). p ++ l) d)) ∙ (set_at p (get_or old count 0) (drop (count + 1) old) y count lp
              ∙ (sym (append_assoc p (y ∷ []) (drop (count + 1) old)) ∙ (ap (λ (l : List ℕ). l ++ drop (count + 1) old) (sym (map-append payload_at g.walk.passed (record { node = g.walk.cursor - 1; payload = y } ∷ [])))
              ∙ ap (λ (n : ℕ). map payload_at (g.walk.passed ++ record { node = g.walk.cursor - 1; payload = y } ∷ []) ++ drop n old) (ap (λ (n : ℕ). n + 1) c ∙ same))))),
        );
        small = sh.small h;
        few = omega arith;
        met = λ z. subst AllMet (went h) (sh.met z due_now);
        lists = subst (SeesList v) (went h) lists_now;
      }

      pub stops_at : found ≡ mark → count ≢ length out → (w : Walk) × (m2 ≡ (with_walk w v, [])) × Looked pixel v old out (Unlinked (here - 1)) w
      stops_at h room = let w : Walk = gone true found (noting y g.walk) in let is : going found (noting y g.walk) ≡ w = ap (λ (b : Bool). gone b found (noting y g.walk)) (eq-eqb found mark h) in
          let a = g.cursor_is in let b = g.written.0 in let d = g.written.1 in let c = g.count_is in
          (w, gone_walk ∙ ap (λ (x : Walk). (with_walk x v, [])) is, record { here = g.pixel_is; due = g.due_is; answer = (omega arith, refl, omega arith); written = g.written; whole = sees_whole v g.walk g.lists })

      pub never_stops : found ≡ mark → endowment v ≡ 2 ^ 60 → loose v.entries ≡ 0 → ⊥
      never_stops h whole settled = let e = ap (λ (m : Me (Unit {0}) View). m.0.entries) noted_walk in let c = ap (λ (m : Me (Unit {0}) View). endowment m.0) noted_walk in told_more.linked (c ∙ whole) (ap loose e ∙ settled) h
