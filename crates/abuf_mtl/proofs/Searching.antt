-- The search from the end, one line further.
use Rattle.std.proofs.Common.{◌≡◌, ◌∷◌, [], ℕ, Bool, true, false, List, Option, None, Some, option_map, unwrap_or, refl, sym, ap, ◌∙◌, subst, if◌then◌else◌}
use Rattle.std.specs.Str.{bytes_eq}
use Rattle.abuf_mtl.specs.Material.{search_from, paint_of, first_of}
use Rattle.abuf_mtl.specs.Reading.{Look, with_colour, with_alpha, Says, Changes, look, current}
use Rattle.abuf_num.specs.declared.plain.Paint.{Paint}
use Rattle.abuf_mtl.specs.Said.{Said, name, colour, alpha, nothing}
use Rattle.abuf_mtl.specs.declared.reader.MtlReader.{MtlReader}

-- the name whose section the lines, last first, end in
abbrev pub current_of : List Said → Option (List ℕ)
current_of [] = None
current_of (name n ∷ before) = Some n
current_of (colour c ∷ before) = current_of before
current_of (alpha a ∷ before) = current_of before
current_of (nothing ∷ before) = current_of before

abbrev pub override : Option (List ℕ) → Option ℕ → Paint → Paint
override c a paint = record { colour = unwrap_or c paint.colour; alpha = unwrap_or a paint.alpha }

-- a colour that was met first stays over one that is met later
override-colour : (c : Option (List ℕ)) (a : Option ℕ) (x : List ℕ) (p : Paint) → override (first_of c (Some x)) a p ≡ override c a (override (Some x) None p)
override-colour None a x p = refl
override-colour (Some c) a x p = refl

-- and so does an alpha
override-alpha : (c : Option (List ℕ)) (a : Option ℕ) (x : ℕ) (p : Paint) → override c (first_of a (Some x)) p ≡ override c a (override None (Some x) p)
override-alpha c None x p = refl
override-alpha c (Some a) x p = refl

-- the section of this name is open: what was met goes over its paint
record Found (key : List ℕ) (before : List Said) : Type 0 where
  paint : Paint
  with_met : (c : Option (List ℕ)) (a : Option ℕ) → search_from key c a before ≡ Some (override c a paint)

-- where the open section is that of the name, the search finds a paint there
found : (key : List ℕ) (before : List Said) (n : List ℕ) → current_of before ≡ Some n → bytes_eq n key ≡ true → Found key before
found key [] n is same = absurd (let e : None ≡ Some n = is in cc)
found key (name m ∷ before) n is same =
    let e : m ≡ n = cc in
    let test : bytes_eq m key ≡ true = subst (λ (k : List ℕ). bytes_eq k key ≡ true) (sym e) same in
    record { paint = paint_of None None; with_met = λ c a. rw test refl }
found key (colour x ∷ before) n is same =
    let inner = found key before n is same in
    record { paint = override (Some x) None inner.paint; with_met = λ c a. inner.with_met (first_of c (Some x)) a ∙ ap Some (override-colour c a x inner.paint) }
found key (alpha x ∷ before) n is same =
    let inner = found key before n is same in
    record { paint = override None (Some x) inner.paint; with_met = λ c a. inner.with_met c (first_of a (Some x)) ∙ ap Some (override-alpha c a x inner.paint) }
found key (nothing ∷ before) n is same =
    let inner = found key before n is same in
    record { paint = inner.paint; with_met = inner.with_met }

-- the section of another name is open: what was met is of no use
past : (key : List ℕ) (before : List Said) (n : List ℕ) (c : Option (List ℕ)) (a : Option ℕ) → current_of before ≡ Some n → bytes_eq n key ≡ false → search_from key c a before ≡ search_from key None None before
past key [] n c a is other = refl
past key (name m ∷ before) n c a is other =
    let e : m ≡ n = cc in
    let test : bytes_eq m key ≡ false = subst (λ (k : List ℕ). bytes_eq k key ≡ false) (sym e) other in
    rw test refl
past key (colour x ∷ before) n c a is other = past key before n (first_of c (Some x)) a is other ∙ sym (past key before n (Some x) None is other)
past key (alpha x ∷ before) n c a is other = past key before n c (first_of a (Some x)) is other ∙ sym (past key before n None (Some x) is other)
past key (nothing ∷ before) n c a is other = past key before n c a is other

-- what was said so far, last first, goes over what the table had
pub record SaidSo (start now : Look) (begun : Option (List ℕ)) (before : List Said) : Type 0 where
  pub each : (key : List ℕ) → now key ≡ first_of (search_from key None None before) (start key)
  pub open_name : begun ≡ current_of before

-- a choice between two finds that fall back on the same is one find that falls back on it
cond-first : (v : Bool) (x : Paint) (o start : Option Paint) → (if v then Some x else first_of o start) ≡ first_of (if v then Some x else o) start
cond-first true x o start = refl
cond-first false x o start = refl

-- a change of the open name's paint
changed : (v : Bool) (key : List ℕ) (before : List Said) (n : List ℕ) (c : Option (List ℕ)) (a : Option ℕ) (change : Paint → Paint) (start : Option Paint)
    → ((p : Paint) → override c a p ≡ change p) → current_of before ≡ Some n → bytes_eq n key ≡ v
    → (if v then option_map change (first_of (search_from key None None before) start) else first_of (search_from key None None before) start) ≡ first_of (search_from key c a before) start
changed true key before n c a change start same is test =
    let f = found key before n is test in
    rw (f.with_met None None, f.with_met c a, same f.paint) refl
changed false key before n c a change start same is test = ap (λ (o : Option Paint). first_of o start) (sym (past key before n c a is test))

module _ (start : Look) (old new : MtlReader) (before : List Said) (so : SaidSo start (look old) (current old) before) where
  -- what a line changes of the open name's paint is what the search meets in it
  changed_by : (c : Option (List ℕ)) (a : Option ℕ) (change : Paint → Paint) → ((p : Paint) → override c a p ≡ change p) → Changes change old new
      → ((key : List ℕ) → look new key ≡ first_of (search_from key c a before) (start key)) × (current new ≡ current_of before)
  changed_by c a change same h =
      let is : current_of before ≡ Some h.n = sym so.open_name ∙ h.before in (
        λ key. h.changes key ∙ ap (λ (o : Option Paint). if bytes_eq h.n key then option_map change o else o) (so.each key) ∙ changed (bytes_eq h.n key) key before h.n c a change (start key) same is refl,
        h.after ∙ sym is,
      )

  -- one line more is said
  pub said_more : (s : Said) → Says old new s → SaidSo start (look new) (current new) (s ∷ before)
  said_more (name n) h = record {
    each = λ key. h.0 key ∙ ap (λ (o : Option Paint). if bytes_eq n key then Some (paint_of None None) else o) (so.each key) ∙ cond-first (bytes_eq n key) _ _ (start key);
    open_name = h.1;
  }
  said_more (colour x) h =
      let p = changed_by (Some x) None (with_colour x) (λ p. refl) h in record { each = p.0; open_name = p.1 }
  said_more (alpha x) h =
      let p = changed_by None (Some x) (with_alpha x) (λ p. refl) h in record { each = p.0; open_name = p.1 }
  said_more nothing h = record { each = λ key. ap (λ (r : MtlReader). look r key) h ∙ so.each key; open_name = ap current h ∙ so.open_name }
