-- What ties the fields of a pass to its view, after a step.
use Rattle.std.proofs.Common.{◌≡◌, ◌≢◌, ℕ, ◌+◌, ◌-◌, ◌<◌, ◌≤◌, Bool, cond, eqb, true, false, List, [], ◌∷◌, map, sym, refl, ap, ◌∙◌, subst, arith, ⊎_elim, Option, Some, eq-eqb, ne_eqb}
use Rattle.std.proofs.lemmas.Bool.{cases_eq}
use Rattle.atomic_table.specs.Table.{Me}
use Rattle.abuf_frame.specs.declared.view.Stage.{Stage}
use Rattle.abuf_frame.specs.declared.view.Stage.TheVariants.{Claimed, Filled, Swapped}
use Rattle.abuf_frame.specs.declared.view.Entry.{Entry}
use Rattle.abuf_frame.specs.declared.view.View.{View}
use Rattle.abuf_num.specs.Counting.{times}
use Rattle.abuf_frame.specs.Views.{loose, number_of, stage_of}
use Rattle.abuf_frame.specs.Stages.{IsFilled, IsSwapped, filled, is_loose, linked, swapped}
use Rattle.abuf_frame.specs.Steps.{moved, restage}
use Rattle.abuf_frame.specs.Pass.{AllInRange, InRange, Ties}
use Rattle.abuf_num.proofs.Counting.{count_by-cons}
use Rattle.abuf_frame.proofs.Moves.{found, length_restage}

-- A stage that is found is in range.
pub sound_find : (pixels nodes n : ℕ) (es : List Entry) (y : Stage) → AllInRange pixels nodes es → stage_of n es ≡ Some y → InRange pixels nodes n y
sound_find pixels nodes n es y a f = found (InRange pixels nodes) n es y a f

-- Entries stay in range after one went on in range.
sound_restage : (pixels nodes n : ℕ) (f : Stage → Stage) → ((y : Stage) → InRange pixels nodes n y → InRange pixels nodes n (f y)) → (es : List Entry) → AllInRange pixels nodes es → AllInRange pixels nodes (restage n f es)
sound_restage pixels nodes n f keep [] a = tt
sound_restage pixels nodes n f keep (e ∷ es) a = (
  ⊎_elim (λ (h : e.number ≡ n). let t = eq-eqb e.number n h in subst (λ (b : Bool). InRange pixels nodes e.number (cond b (f e.stage) e.stage)) (sym t) (subst (λ (m : ℕ). InRange pixels nodes m (f e.stage)) (sym h) (keep e.stage (subst (λ (m : ℕ). InRange pixels nodes m e.stage) h a.0))))
      (λ (h : e.number ≢ n). let t = ne_eqb e.number n h in subst (λ (b : Bool). InRange pixels nodes e.number (cond b (f e.stage) e.stage)) (sym t) a.0) (cases_eq e.number n),
  sound_restage pixels nodes n f keep es a.1,
)

-- An entry as it is after entry n went on by f.
abbrev moved_entry : ℕ → (Stage → Stage) → Entry → Entry
moved_entry n f e = record { number = e.number; stage = cond (eqb e.number n) (f e.stage) e.stage }

-- Of an entry and more, so many are loose.
loose-cons : (e : Entry) (es : List Entry) → loose (e ∷ es) ≡ cond (is_loose e.stage) 1 0 + loose es
loose-cons e es = count_by-cons (λ (f : Entry). is_loose f.stage) e es

-- As many are loose after one went on that stays as loose as it was.
loose_restage : (n : ℕ) (f : Stage → Stage) → ((y : Stage) → is_loose (f y) ≡ is_loose y) → (es : List Entry) → loose (restage n f es) ≡ loose es
loose_restage n f keep [] = refl
loose_restage n f keep (e ∷ es) = let r = loose_restage n f keep es in
    let same : is_loose (cond (eqb e.number n) (f e.stage) e.stage) ≡ is_loose e.stage = elim (eqb e.number n) as (λ b. is_loose (cond b (f e.stage) e.stage) ≡ is_loose e.stage) [ true ↦ keep e.stage | false ↦ refl ] in
    let z = ap (λ (b : Bool). cond {A = ℕ} b 1 0) same in omega (arith, loose-cons e es, loose-cons (moved_entry n f e) (restage n f es))

-- Nothing changes where the number has no entry.
pub restage_other : (n : ℕ) (f : Stage → Stage) (es : List Entry) → times n (map number_of es) ≡ 0 → restage n f es ≡ es
restage_other n f [] t = refl
restage_other n f (e ∷ es) t = ⊎_elim (λ (h : e.number ≡ n). let z = ap (λ (b : Bool). cond {A = ℕ} b 1 0) (eq-eqb e.number n h) in absurd (omega arith))
    (λ (h : e.number ≢ n). let b = ne_eqb e.number n h in let r = restage_other n f es (omega arith) in λ i. record { number = e.number; stage = cond (b i) (f e.stage) e.stage } ∷ r i) (cases_eq e.number n)

-- One fewer is loose after a link.
loose_linked : (n p y o : ℕ) (es : List Entry) → stage_of n es ≡ Some (Swapped p y o) → times n (map number_of es) ≡ 1 → loose (restage n linked es) + 1 ≡ loose es
loose_linked n p y o [] f t = absurd (cc)
loose_linked n p y o (e ∷ es) f t = ⊎_elim (λ (h : e.number ≡ n). let b = eq-eqb e.number n h in let g : Some e.stage ≡ Some (Swapped p y o) = subst (λ (b : Bool). cond b (Some e.stage) (stage_of n es) ≡ Some (Swapped p y o)) b f in let same : e.stage ≡ Swapped p y o = cc in
    let u = ap (λ (b : Bool). cond {A = ℕ} b 1 0) b in let r = ap loose (restage_other n linked es (omega arith)) in
    let now : is_loose (cond (eqb e.number n) (linked e.stage) e.stage) ≡ false = ap (λ (c : Bool). is_loose (cond c (linked e.stage) e.stage)) b ∙ ap (λ (z : Stage). is_loose (linked z)) same in
    let was : is_loose e.stage ≡ true = ap is_loose same in let v = ap (λ (b : Bool). cond {A = ℕ} b 1 0) now in let w = ap (λ (b : Bool). cond {A = ℕ} b 1 0) was in omega (arith, loose-cons e es, loose-cons (moved_entry n linked e) (restage n linked es)))
    (λ (h : e.number ≢ n). let b = ne_eqb e.number n h in let u = ap (λ (b : Bool). cond {A = ℕ} b 1 0) b in let r = loose_linked n p y o es (subst (λ (b : Bool). cond b (Some e.stage) (stage_of n es) ≡ Some (Swapped p y o)) b f) (omega arith) in
    let same : is_loose (cond (eqb e.number n) (linked e.stage) e.stage) ≡ is_loose e.stage = ap (λ (c : Bool). is_loose (cond c (linked e.stage) e.stage)) b in let v = ap (λ (b : Bool). cond {A = ℕ} b 1 0) same in omega (arith, loose-cons e es, loose-cons (moved_entry n linked e) (restage n linked es))) (cases_eq e.number n)

-- A fill leaves it loose,
loose_filled : (p z : ℕ) (y : Stage) → is_loose (filled p z y) ≡ is_loose y
loose_filled p z Claimed = refl
loose_filled p z _ = refl

-- and so does a swap.
loose_swapped : (old : ℕ) (y : Stage) → is_loose (swapped old y) ≡ is_loose y
loose_swapped old (Filled q x) = refl
loose_swapped old _ = refl

module _ (pixels nodes n : ℕ) where
  -- A fill keeps a stage in range.
  right_filled : (p z : ℕ) → p < pixels → (y : Stage) → InRange pixels nodes n y → InRange pixels nodes n (filled p z y)
  right_filled p z on Claimed a = (a, on)
  right_filled p z on _ a = a

  -- So does a swap.
  right_swapped : (old : ℕ) (y : Stage) → InRange pixels nodes n y → InRange pixels nodes n (swapped old y)
  right_swapped old (Filled q x) a = a
  right_swapped old _ a = a

  -- So does a link.
  right_linked : (y : Stage) → InRange pixels nodes n y → InRange pixels nodes n (linked y)
  right_linked (Swapped q x o) a = a
  right_linked _ a = a

  -- What ties a pass to its view holds after an entry went on.
  ties_moved : (f : Stage → Stage) (me now : Me (Unit {0}) View) (credit own ones ones' : ℕ) → Ties pixels nodes me credit own ones → now ≡ (moved n f me.0, [])
      → ((y : Stage) → InRange pixels nodes n y → InRange pixels nodes n (f y)) → ones' ≡ loose (restage n f me.0.entries) → Ties pixels nodes now credit own ones'
  ties_moved f me now credit own ones ones' t is right less = subst (λ (m : Me (Unit {0}) View). Ties pixels nodes m credit own ones') (sym is)
      (let len = length_restage n f me.0.entries in let o = t.own_is in let s = t.small in record {
        bare = refl;
        credit_is = t.credit_is;
        own_is = omega arith;
        loose_is = less;
        small = omega arith;
        sound = sound_restage pixels nodes n f right me.0.entries t.sound;
      })

  module _ (me now : Me (Unit {0}) View) (credit own ones : ℕ) (t : Ties pixels nodes me credit own ones) where
    -- It holds after a fill.
    pub ties_filled : (p z : ℕ) → p < pixels → now ≡ (moved n (filled p z) me.0, []) → Ties pixels nodes now credit own ones
    ties_filled p z on is = ties_moved (filled p z) me now credit own ones ones t is (right_filled p z on) (t.loose_is ∙ sym (loose_restage n (filled p z) (loose_filled p z) me.0.entries))

    -- It holds after a swap.
    pub ties_swapped : (old : ℕ) → now ≡ (moved n (swapped old) me.0, []) → Ties pixels nodes now credit own ones
    ties_swapped old is = ties_moved (swapped old) me now credit own ones ones t is (right_swapped old) (t.loose_is ∙ sym (loose_restage n (swapped old) (loose_swapped old) me.0.entries))

    -- Before a link an entry is loose.
    pub some_loose : (p y o : ℕ) → stage_of n me.0.entries ≡ Some (Swapped p y o) → times n (map number_of me.0.entries) ≡ 1 → 1 ≤ ones
    some_loose p y o f one = let l = loose_linked n p y o me.0.entries f one in let u = t.loose_is in omega arith

    -- It holds after a link, with one loose entry fewer.
    pub ties_linked : (p y o : ℕ) → stage_of n me.0.entries ≡ Some (Swapped p y o) → times n (map number_of me.0.entries) ≡ 1 → now ≡ (moved n linked me.0, []) → Ties pixels nodes now credit own (ones - 1)
    ties_linked p y o f one is = let l = loose_linked n p y o me.0.entries f one in let u = t.loose_is in ties_moved linked me now credit own ones (ones - 1) t is right_linked (omega arith)

-- What is filled has a payload.
pub filled_is : (p : ℕ) (o : Option Stage) → IsFilled p o → (y : ℕ) × (o ≡ Some (Filled p y))
filled_is p (Some (Filled q y)) h = (y, ap (λ (i : ℕ). Some (Filled i y)) h)
filled_is p _ h = absurd h

-- What is swapped has a pixel, a payload and the old head.
pub swapped_is : (old : ℕ) (o : Option Stage) → IsSwapped old o → (q : ℕ) × (y : ℕ) × (o ≡ Some (Swapped q y old))
swapped_is old (Some (Swapped q y o)) h = (q, y, ap (λ (i : ℕ). Some (Swapped q y i)) h)
swapped_is old _ h = absurd h
