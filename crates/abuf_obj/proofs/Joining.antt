-- The vertices of elements, one after another, as the code holds them.
use Rattle.std.proofs.Common.{◌<◌, ◌≤◌, append-nil, ap₂, suc, drop, length, nat_lt, true, false, is_some, arith, ℕ, ◌≡◌, List, [], ◌∷◌, ◌++◌, map, append_assoc, Option, None, Some, option_map, refl, sym, ap, ◌∙◌}
use Rattle.abuf_obj.specs.Elements.{vertex_of, vertices_of, put_first}
use Rattle.abuf_obj.specs.Vertices.{clamped}
use Rattle.abuf_obj.specs.LeadingElement.{first_vertex}
use Rattle.abuf_obj.specs.Corners.{corners_why, AreCorners}
use Rattle.std.proofs.lemmas.Bool.Decides.{nat_tests}

-- vertices that are known, and those behind them
abbrev pub joined : List ℕ → Option (List ℕ) → Option (List ℕ)
joined out None = None
joined out (Some vertices) = Some (out ++ map clamped vertices)

put_first-joined : (out : List ℕ) (p : ℕ) (later : Option (List ℕ)) → joined out (put_first (Some p) later) ≡ joined (out ++ clamped p ∷ []) later
put_first-joined out p None = refl
put_first-joined out p (Some vertices) = ap Some (sym (append_assoc out (clamped p ∷ []) (map clamped vertices)))

joined-by : (out : List ℕ) (vertex : Option ℕ) (later : Option (List ℕ)) (h : ℕ) → option_map clamped vertex ≡ Some h → joined out (put_first vertex later) ≡ joined (out ++ h ∷ []) later
joined-by out None later h is = absurd (let e : None ≡ Some h = is in cc)
joined-by out (Some p) later h is =
    let same : clamped p ≡ h = cc in
    put_first-joined out p later ∙ ap (λ (q : ℕ). joined (out ++ q ∷ []) later) same

-- one more element has its vertex
pub vertices-first : (above : ℕ) (element : List ℕ) (elements : List (List ℕ)) (out : List ℕ) (h : ℕ) → option_map clamped (vertex_of above element) ≡ Some h
    → joined (out ++ h ∷ []) (vertices_of above elements) ≡ joined out (vertices_of above (element ∷ elements))
vertices-first above element elements out h is = sym (joined-by out (vertex_of above element) (vertices_of above elements) h is)

-- the vertices behind the first
module _ (above : ℕ) where
  -- one more element has its vertex
  pub vertices-next : (elements : List (List ℕ)) (out : List ℕ) (h : ℕ) → option_map clamped (first_vertex above elements) ≡ Some h
      → joined (out ++ h ∷ []) (vertices_of above (drop 1 elements)) ≡ joined out (vertices_of above elements)
  vertices-next [] out h is = absurd (let e : None ≡ Some h = is in cc)
  vertices-next (element ∷ elements) out h is = vertices-first above element elements out h is

  -- the first has none, so there is no list
  pub vertices-stop : (elements : List (List ℕ)) → 0 < length elements → option_map clamped (first_vertex above elements) ≡ None → vertices_of above elements ≡ None
  vertices-stop [] some is = absurd (let e : 0 < 0 = some in omega arith)
  vertices-stop (element ∷ elements) some is = by (vertex_of above element) is where
    by : (vertex : Option ℕ) → option_map clamped vertex ≡ None → put_first vertex (vertices_of above elements) ≡ None
    by None h = refl
    by (Some p) h = absurd (let e : Some (clamped p) ≡ None = h in cc)

  -- an element with a vertex is there
  pub one-less : (elements : List (List ℕ)) (h : ℕ) → option_map clamped (first_vertex above elements) ≡ Some h → length elements ≡ suc (length (drop 1 elements))
  one-less [] h is = absurd (let e : None ≡ Some h = is in cc)
  one-less (element ∷ elements) h is = refl

  -- the list of the first vertex and of those behind it
  pub with-first : (elements : List (List ℕ)) (h : ℕ) (list : List ℕ) → option_map clamped (first_vertex above elements) ≡ Some h → Some list ≡ option_map (map clamped) (vertices_of above (drop 1 elements))
      → Some (h ∷ list) ≡ option_map (map clamped) (vertices_of above elements)
  with-first [] h list is later = absurd (let e : None ≡ Some h = is in cc)
  with-first (element ∷ elements) h list is later = by (vertex_of above element) (vertices_of above elements) is later where
    by : (vertex : Option ℕ) (vertices : Option (List ℕ)) → option_map clamped vertex ≡ Some h → Some list ≡ option_map (map clamped) vertices → Some (h ∷ list) ≡ option_map (map clamped) (put_first vertex vertices)
    by None vertices p q = absurd (let e : None ≡ Some h = p in cc)
    by (Some p) None e q = absurd (let f : Some list ≡ None = q in cc)
    by (Some p) (Some vertices) e q = let first : clamped p ≡ h = cc in let rest : list ≡ map clamped vertices = cc in ap₂ (λ (x : ℕ) (xs : List ℕ). Some (x ∷ xs)) (sym first) rest

  -- what is wrong with elements that have vertices: nothing
  pub sound : (elements : List (List ℕ)) (list : List ℕ) → 3 ≤ length elements → length elements ≤ 1024 → Some list ≡ option_map (map clamped) (vertices_of above elements) → corners_why above elements ≡ None
  sound elements list least most is =
      let there : is_some (vertices_of above elements) ≡ true = some_by (vertices_of above elements) is in
      let low : nat_lt (length elements) 3 ≡ false = grind (arith, nat_tests) in
      let high : nat_lt 1024 (length elements) ≡ false = grind (arith, nat_tests) in
      rw low (rw high (rw there refl))
    where
      some_by : (vertices : Option (List ℕ)) → Some list ≡ option_map (map clamped) vertices → is_some vertices ≡ true
      some_by None e = absurd (let f : Some list ≡ None = e in cc)
      some_by (Some vertices) e = refl

  joined-nil : (vertices : Option (List ℕ)) → joined [] vertices ≡ option_map (map clamped) vertices
  joined-nil None = refl
  joined-nil (Some vertices) = refl

  -- no element is left
  pub vertices-end : (elements all : List (List ℕ)) (out : List ℕ) → length elements ≡ 0 → joined out (vertices_of above elements) ≡ joined [] (vertices_of above all)
      → Some out ≡ option_map (map clamped) (vertices_of above all)
  vertices-end [] all out none is = ap Some (sym (append-nil out)) ∙ is ∙ joined-nil (vertices_of above all)
  vertices-end (element ∷ elements) all out none is = absurd (omega arith)

  -- an element has no vertex
  pub vertices-fail : (elements all : List (List ℕ)) (out : List ℕ) → vertices_of above elements ≡ None → joined out (vertices_of above elements) ≡ joined [] (vertices_of above all)
      → None ≡ option_map (map clamped) (vertices_of above all)
  vertices-fail elements all out none is = sym (ap (joined out) none) ∙ is ∙ joined-nil (vertices_of above all)

  -- the list has the vertices of all elements
  pub record Counted (elements : List (List ℕ)) (list : List ℕ) : Type 0 where
    pub count : length list ≡ length elements
    pub value : Some list ≡ option_map (map clamped) (vertices_of above elements)

  pub counted-none : (elements : List (List ℕ)) → elements ≡ [] → Counted elements []
  counted-none elements none = record { count = sym (ap (λ (es : List (List ℕ)). length es) none); value = ap (λ (es : List (List ℕ)). option_map (map clamped) (vertices_of above es)) (sym none) }

  pub counted-first : (elements later : List (List ℕ)) (h : ℕ) (list : List ℕ) → option_map clamped (first_vertex above elements) ≡ Some h → later ≡ drop 1 elements → Counted later list
      → Counted elements (h ∷ list)
  counted-first elements later h list is cut rest = record {
    count = omega (arith, one-less elements h is, ap (λ (es : List (List ℕ)). length es) cut, rest.count);
    value = with-first elements h list is (rest.value ∙ ap (λ (es : List (List ℕ)). option_map (map clamped) (vertices_of above es)) cut);
  }

  pub are_corners : (elements : List (List ℕ)) (list : List ℕ) → Counted elements list → 3 ≤ length list → length list ≤ 1024 → AreCorners above elements list
  are_corners elements list c least most =
      let low : 3 ≤ length elements = omega (arith, c.count) in
      let high : length elements ≤ 1024 = omega (arith, c.count) in
      record { least = low; most = high; count = c.count; value = c.value; sound = sound elements list low high c.value }
