-- The paints beside the names.
use Rattle.std.proofs.Common.{ℕ, ◌≡◌, ◌<◌, ◌++◌, ◌∷◌, [], Bool, true, false, cond, List, length, get_or, set, suc, Option, Some, None, option_map, refl, sym, ap, ◌∙◌, subst, arith, ⊎_elim, if◌then◌else◌}
use Rattle.std.specs.Cmp.Lexicographic.{bytes_decides}
use Rattle.std.specs.List.{zip}
use Rattle.std.specs.Map.{lookup}
use Rattle.std.specs.Str.{bytes_eq}
use Rattle.std.proofs.Math.ListN.{get_or-append}
use Rattle.std.proofs.Math.Seq.{get_or-append_seam}
use Rattle.std.proofs.lemmas.Bool.{cases_Bool, false≢true}
use Rattle.std.proofs.lemmas.List.{get_or-set_same, get_or-set_other, get_or_default}
use Rattle.abuf_text.specs.Names.{index_of}
use Rattle.abuf_text.proofs.NameTable.{index_of-push}
use Rattle.abuf_text.proofs.Places.{position-cons, position_passes}
use Rattle.abuf_mtl.specs.Material.{paint_of}
use Rattle.abuf_mtl.specs.Reading.{paint_at}
use Rattle.abuf_num.specs.declared.plain.Paint.{Paint}

-- one pair more in front puts each index one further
one_further : (v : Bool) (index : Option ℕ) (x : Paint) (paints : List Paint)
    → cond v (Some x) (option_map (λ k. get_or paints k (paint_of None None)) index) ≡ option_map (λ k. get_or (x ∷ paints) k (paint_of None None)) (cond v (Some 0) (option_map suc index))
one_further true index x paints = refl
one_further false None x paints = refl
one_further false (Some k) x paints = refl

-- a search among the pairs finds the paint at the name's index
pub lookup-zip : (n : List ℕ) (names : List (List ℕ)) (paints : List Paint) → length paints ≡ length names → lookup (bytes_eq n) (zip names paints) ≡ paint_at names paints n
lookup-zip n [] paints same = refl
lookup-zip n (m ∷ names) [] same = absurd (omega arith)
lookup-zip n (m ∷ names) (x ∷ paints) same =
    ap (cond (bytes_eq n m) (Some x)) (lookup-zip n names paints (omega arith))
    ∙ one_further (bytes_eq n m) (index_of n names) x paints
    ∙ ap (option_map (λ k. get_or (x ∷ paints) k (paint_of None None))) (sym (position-cons (bytes_eq n) m names))

-- the name at an index is the name that has it
pub name_at : (n : List ℕ) (names : List (List ℕ)) (k : ℕ) → index_of n names ≡ Some k → n ≡ get_or names k []
name_at n names k is = (bytes_decides n (get_or names k [])).0 (position_passes (bytes_eq n) names k [] is).1

-- a name's index is one of the list
pub index_within : (n : List ℕ) (names : List (List ℕ)) (k : ℕ) → index_of n names ≡ Some k → k < length names
index_within n names k is = (position_passes (bytes_eq n) names k [] is).0

-- values that are wrapped alike are alike
pub some_same : {a b : ℕ} → Some a ≡ Some b → a ≡ b
some_same e = cc

-- other names keep their paints
others_keep : (names : List (List ℕ)) (paints : List Paint) (n other : List ℕ) (k : ℕ) (x : Paint) → index_of n names ≡ Some k → bytes_eq n other ≡ false
    → (index : Option ℕ) → index_of other names ≡ index
    → option_map (λ j. get_or (set paints k x) j (paint_of None None)) index ≡ option_map (λ j. get_or paints j (paint_of None None)) index
others_keep names paints n other k x here differs None is = refl
others_keep names paints n other k x here differs (Some j) is =
    ap Some (get_or-set_other paints k j x (paint_of None None) (λ same.
    let e : n ≡ other = name_at n names k here ∙ sym (ap (λ i. get_or names i []) same) ∙ sym (name_at other names j is) in
    false≢true (sym differs ∙ (bytes_decides n other).1 e)))

-- one paint is set
pub paint_at-set : (names : List (List ℕ)) (paints : List Paint) (n : List ℕ) (k : ℕ) (x : Paint) → length paints ≡ length names → index_of n names ≡ Some k
    → (other : List ℕ) → paint_at names (set paints k x) other ≡ (if bytes_eq n other then Some x else paint_at names paints other)
paint_at-set names paints n k x same here other =
    let within = index_within n names k here in
    ⊎_elim
    (λ yes.
    let e : n ≡ other = (bytes_decides n other).0 yes in
    let at : index_of other names ≡ Some k = subst (λ (m : List ℕ). index_of m names ≡ Some k) e here in
    ap (option_map (λ j. get_or (set paints k x) j (paint_of None None))) at ∙ ap Some (get_or-set_same paints k x (paint_of None None) (omega arith)) ∙ rw yes refl)
    (λ no. others_keep names paints n other k x here no (index_of other names) refl ∙ rw no refl)
    (cases_Bool (bytes_eq n other))

-- the others, where one paint was put last
front_keeps : (names : List (List ℕ)) (paints : List Paint) (other : List ℕ) (x : Paint) → length paints ≡ length names → (index : Option ℕ) → index_of other names ≡ index
    → option_map (λ j. get_or (paints ++ x ∷ []) j (paint_of None None)) index ≡ option_map (λ j. get_or paints j (paint_of None None)) index
front_keeps names paints other x same None is = refl
front_keeps names paints other x same (Some j) is =
    let within = index_within other names j is in
    ap Some (get_or-append paints (x ∷ []) (paint_of None None) j (omega arith))

-- one name and its paint are put last
pub paint_at-push : (names : List (List ℕ)) (paints : List Paint) (n : List ℕ) (x : Paint) → length paints ≡ length names → index_of n names ≡ None
    → (other : List ℕ) → paint_at (names ++ n ∷ []) (paints ++ x ∷ []) other ≡ (if bytes_eq n other then Some x else paint_at names paints other)
paint_at-push names paints n x same none other =
    let at = index_of-push n other names none in
    let get : ℕ → Paint = λ j. get_or (paints ++ x ∷ []) j (paint_of None None) in
    ap (option_map get) (sym at) ∙
    ⊎_elim
    (λ yes. rw yes (ap Some (ap get (sym same) ∙ get_or-append_seam paints x [] (paint_of None None))))
    (λ no. rw no (front_keeps names paints other x same (index_of other names) refl))
    (cases_Bool (bytes_eq n other))

-- where a test holds, the value is there and changed; otherwise nothing changes
changed_at : (v : Bool) (change : Paint → Paint) (x : Paint) (old : Option Paint) → (v ≡ true → old ≡ Some x) → cond v (Some (change x)) old ≡ cond v (option_map change old) old
changed_at true change x old is = rw (is refl) refl
changed_at false change x old is = refl

-- one paint changes
pub paint_at-change : (names : List (List ℕ)) (paints : List Paint) (k : ℕ) (change : Paint → Paint) (x : Paint) → x ≡ get_or paints k x → length paints ≡ length names
    → index_of (get_or names k []) names ≡ Some k
    → (other : List ℕ) → paint_at names (set paints k (change x)) other
    ≡ (if bytes_eq (get_or names k []) other then option_map change (paint_at names paints other) else paint_at names paints other)
paint_at-change names paints k change x is same here other =
    let within = index_within (get_or names k []) names k here in
    let there : get_or paints k (paint_of None None) ≡ x = get_or_default paints k (paint_of None None) x (omega arith) ∙ sym is in
    paint_at-set names paints (get_or names k []) k (change x) same here other
    ∙ changed_at (bytes_eq (get_or names k []) other) change x (paint_at names paints other) (λ yes.
    let e : get_or names k [] ≡ other = (bytes_decides (get_or names k []) other).0 yes in
    ap (option_map (λ j. get_or paints j (paint_of None None))) (subst (λ (m : List ℕ). index_of m names ≡ Some k) e here) ∙ ap Some there)

-- the name at its own index
pub index_stands : (n : List ℕ) (names : List (List ℕ)) (k : ℕ) → index_of n names ≡ Some k → (k < length names) × (index_of (get_or names k []) names ≡ Some k)
index_stands n names k is = (index_within n names k is, subst (λ (m : List ℕ). index_of m names ≡ Some k) (name_at n names k is) is)

-- a new name that is put last has the last index
pub index_of-last : (n : List ℕ) (names : List (List ℕ)) → index_of n names ≡ None → index_of n (names ++ n ∷ []) ≡ Some (length names)
index_of-last n names none =
    let same : bytes_eq n n ≡ true = (bytes_decides n n).1 refl in
    sym (index_of-push n n names none) ∙ ap (λ v. cond v (Some (length names)) (index_of n names)) same
