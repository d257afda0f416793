-- Entries that are made and go through all stages.
use Rattle.std.proofs.Common.{◌≡◌, ℕ, Bool, cond, eqb, true, false, List, [], ◌∷◌, ◌++◌, map, refl, ap, ◌∙◌, arith, Some, eq-eqb, ne_eqb}
use Rattle.abuf_frame.specs.declared.view.Stage.{Stage}
use Rattle.abuf_frame.specs.declared.view.Entry.{Entry}
use Rattle.abuf_frame.specs.declared.view.View.{View}
use Rattle.abuf_num.specs.Counting.{times}
use Rattle.abuf_frame.proofs.Tied.{restage_other}
use Rattle.abuf_frame.specs.Views.{Below, number_of, stage_of}
use Rattle.abuf_frame.specs.Steps.{moved, restage}
use Rattle.abuf_frame.specs.Stages.{filled, linked, linked_in, swapped}

-- An entry that goes on by f has f of its stage.
pub find_moved : (n : ℕ) (f : Stage → Stage) (es : List Entry) (y : Stage) → stage_of n es ≡ Some y → stage_of n (restage n f es) ≡ Some (f y)
find_moved n f [] y a = absurd (cc)
find_moved n f (e ∷ es) y a = pick (eqb e.number n) a (find_moved n f es y)
  where
    pick : (b : Bool) → cond b (Some e.stage) (stage_of n es) ≡ Some y → (stage_of n es ≡ Some y → stage_of n (restage n f es) ≡ Some (f y)) → cond b (Some (cond b (f e.stage) e.stage)) (stage_of n (restage n f es)) ≡ Some (f y)
    pick true g r = let same : e.stage ≡ y = cc in ap (λ (z : Stage). Some (f z)) same
    pick false g r = r g

-- To go on by f and then by g is to go on by both.
pub restage_restage : (n : ℕ) (f g : Stage → Stage) (es : List Entry) → restage n g (restage n f es) ≡ restage n (λ y. g (f y)) es
restage_restage n f g [] = refl
restage_restage n f g (e ∷ es) = let y = e.stage in let t = elim (eqb e.number n) as (λ b. cond b (g (cond b (f y) y)) (cond b (f y) y) ≡ cond b (g (f y)) y) [ true ↦ refl | false ↦ refl ] in let r = restage_restage n f g es in λ i. record { number = e.number; stage = t i } ∷ r i

-- a fill, a swap and a link
pub set_in_is : (n p y old : ℕ) (v a b w : View) → a ≡ moved n (filled p y) v → b ≡ moved n (swapped old) a → w ≡ moved n linked b → w ≡ moved n (linked_in p y old) v
set_in_is n p y old v a b w ea eb ew = ew ∙ (ap (λ (z : View). moved n linked z) eb ∙ (ap (λ (z : View). moved n linked (moved n (swapped old) z)) ea
    ∙ (let t = ap (restage n linked) (restage_restage n (filled p y) (swapped old) v.entries) ∙ restage_restage n (λ x. swapped old (filled p y x)) linked v.entries in
    λ i. record { credit = v.credit; entries = t i; told = v.told; seen = v.seen; walks = v.walks })))

-- An entry is found after entries of lower numbers.
pub find_middle : (n : ℕ) (es : List Entry) (e : Entry) (rest : List Entry) → Below n es → e.number ≡ n → stage_of n (es ++ e ∷ rest) ≡ Some e.stage
find_middle n [] e rest b is = ap (λ (t : Bool). cond t (Some e.stage) (stage_of n rest)) (eq-eqb e.number n is)
find_middle n (x ∷ xs) e rest b is = let t = ne_eqb x.number n (λ h. let l = b.0 in omega arith) in ap (λ (t : Bool). cond t (Some x.stage) (stage_of n (xs ++ e ∷ rest))) t ∙ find_middle n xs e rest b.1 is

-- An entry after those of lower numbers and before those of higher ones goes on alone.
pub restage_middle : (n : ℕ) (f : Stage → Stage) (es : List Entry) (e : Entry) (rest : List Entry) → Below n es → e.number ≡ n → times n (map number_of rest) ≡ 0
    → restage n f (es ++ e ∷ rest) ≡ es ++ record { number = e.number; stage = f e.stage } ∷ rest
restage_middle n f [] e rest b is a = let t = eq-eqb e.number n is in let r = restage_other n f rest a in λ i. record { number = e.number; stage = cond (t i) (f e.stage) e.stage } ∷ r i
restage_middle n f (x ∷ xs) e rest b is a = let t = ne_eqb x.number n (λ h. let l = b.0 in omega arith) in let r = restage_middle n f xs e rest b.1 is a in λ i. record { number = x.number; stage = cond (t i) (f x.stage) x.stage } ∷ r i
