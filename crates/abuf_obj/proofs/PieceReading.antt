-- What a reader has read of a piece, and what two of them have together.
use Rattle.std.proofs.Common.{◌≡◌, ◌≤◌, ◌<◌, ◌+◌, ◌++◌, ◌∷◌, [], ℕ, ℤ, Bool, true, false, List, map, length, Option, None, Some, refl, sym, ap, ap₂, ◌∙◌, subst, append_assoc, append-nil, length-append, arith, nat_le}
use Rattle.std.specs.Prelude.{if◌then◌else◌, IfSome}
use Rattle.std.proofs.lemmas.List.{map-append}
use Rattle.std.proofs.lemmas.List.Sums.{fold-append, sum_by-append}
use Rattle.std.proofs.lemmas.List.Concat.{flat_map-append}
use Rattle.std.proofs.lemmas.Bool.Decides.{nat_tests}
use Rattle.abuf_num.specs.declared.limits.TheConstants.{MAX_TRIANGLES}
use Rattle.abuf_text.specs.Statement.{statement, arguments}
use Rattle.abuf_text.specs.Rest.{rest}
use Rattle.abuf_obj.specs.Keywords.{keyword_of}
use Rattle.abuf_obj.specs.Above.{Above, above_of, triangles_by, triangles_on, points_on, names_of, libraries_of, name_in_use}
use Rattle.abuf_obj.specs.Faults.{why, why_by, fault_or, fault_from}
use Rattle.abuf_obj.specs.Scene.{points_of, points_in, faces_by, faces_in, faces_from}
use Rattle.abuf_obj.specs.Vertices.{clamped_face}
use Rattle.abuf_obj.specs.Sound.{IsFan}
use Rattle.abuf_obj.specs.Taking.{counted, with_line, name_by, TakesLine}
use Rattle.abuf_obj.specs.Pieces.{with_triangles, BeginsBehind, HasPiece}
use Rattle.abuf_obj.specs.declared.keyword.Keyword.{Keyword}
use Rattle.abuf_obj.specs.declared.keyword.Keyword.TheVariants as keyword
use Rattle.abuf_obj.specs.declared.fault.Why.{Why}
use Rattle.abuf_obj.specs.declared.fault.Why.TheVariants as why_
use Rattle.abuf_obj.specs.declared.face.Face.{Face}
use Rattle.abuf_obj.specs.declared.reader.ObjReader.{ObjReader}
use Rattle.abuf_obj.proofs.Reading.{above_same, above_of-more}

-- what an if over a limit is where the limit is kept
fits : (a b c d e : Bool) → e ≡ true
    → (if a then Some why_.TooFewElements else (if b then Some why_.TooManyElements else (if c then (if d then None else Some why_.TooManyTriangles) else Some why_.BadIndex))) ≡ None
    → (if a then Some why_.TooFewElements else (if b then Some why_.TooManyElements else (if c then (if e then None else Some why_.TooManyTriangles) else Some why_.BadIndex))) ≡ None
fits true b c d e is h = absurd (let f : Some why_.TooFewElements ≡ None = h in cc)
fits false true c d e is h = absurd (let f : Some why_.TooManyElements ≡ None = h in cc)
fits false false false d e is h = absurd (let f : Some why_.BadIndex ≡ None = h in cc)
fits false false true d e is h = rw is refl

-- of the triangles above, a line looks at the limit alone
module _ (t : ℕ) (a : Above) where
  name_by-triangles : (word : Keyword) (text : List ℕ) → name_by word text (with_triangles t a) ≡ name_by word text a
  name_by-triangles keyword.Vertex text = refl
  name_by-triangles keyword.Face text = refl
  name_by-triangles keyword.Material text = refl
  name_by-triangles keyword.Library text = refl
  name_by-triangles keyword.Passed text = refl
  name_by-triangles keyword.Refused text = refl

  faces_by-triangles : (number : ℕ) (word : Keyword) (elements : List (List ℕ)) → faces_by number (with_triangles t a) word elements ≡ faces_by number a word elements
  faces_by-triangles number keyword.Vertex elements = refl
  faces_by-triangles number keyword.Face elements = refl
  faces_by-triangles number keyword.Material elements = refl
  faces_by-triangles number keyword.Library elements = refl
  faces_by-triangles number keyword.Passed elements = refl
  faces_by-triangles number keyword.Refused elements = refl

  why_by-triangles : (word : Keyword) (elements : List (List ℕ)) (text : List ℕ) → a.triangles + triangles_by word elements ≤ MAX_TRIANGLES → why_by (with_triangles t a) word elements text ≡ None
      → why_by a word elements text ≡ None
  why_by-triangles keyword.Vertex elements text few h = h
  why_by-triangles keyword.Face elements text few h = fits _ _ _ _ _ (let e : nat_le (a.triangles + triangles_by keyword.Face elements) MAX_TRIANGLES ≡ true = grind (arith, nat_tests) in e) h
  why_by-triangles keyword.Material elements text few h = h
  why_by-triangles keyword.Library elements text few h = h
  why_by-triangles keyword.Passed elements text few h = h
  why_by-triangles keyword.Refused elements text few h = h

  with_line-triangles : (word : Keyword) (elements : List (List ℕ)) (text : List ℕ) → with_line word elements text (with_triangles t a) ≡ with_triangles (t + triangles_by word elements) (with_line word elements text a)
  with_line-triangles word elements text = above_same _ _ refl refl refl refl (name_by-triangles word text)

-- `start` stands above the piece, whose lines are `all`; `done` was read of them, `after` follows
pub record IsReading (start done after all : List (List ℕ)) (number : ℕ) (r : ObjReader) : Type 0 where
  pub together : done ++ after ≡ all
  pub count : number ≡ length (start ++ done)
  pub above : counted r ≡ with_triangles (triangles_on done) (above_of (start ++ done))
  pub points : r.points ≡ points_of done
  pub faces : r.faces ++ map clamped_face (faces_from (start ++ done) after) ≡ map clamped_face (faces_from start all)
  pub sound : triangles_on (start ++ all) ≤ MAX_TRIANGLES → fault_from (start ++ done) after ≡ fault_from start all

pub begins : (start all : List (List ℕ)) (number : ℕ) (r : ObjReader) → number ≡ length start → BeginsBehind start r → r.points ≡ [] → r.faces ≡ [] → r.triangles ≡ 0 → IsReading start [] all all number r
begins start all number r count begin points faces triangles =
    let none : start ++ [] ≡ start = append-nil start in
    record {
      together = refl;
      count = count ∙ ap (λ (ls : List (List ℕ)). length ls) (sym none);
      above =
          above_same _ _ begin.points triangles begin.names.names begin.names.libraries begin.names.name
          ∙ ap (λ (ls : List (List ℕ)). with_triangles 0 (above_of ls)) (sym none);
      points = points;
      faces = ap (λ (fs : List Face). fs ++ map clamped_face (faces_from (start ++ []) all)) faces ∙ ap (λ (ls : List (List ℕ)). map clamped_face (faces_from ls all)) none;
      sound = λ few. ap (λ (ls : List (List ℕ)). fault_from ls all) none;
    }

module _ (start done after all : List (List ℕ)) (number : ℕ) (old : ObjReader) (line : List ℕ) (read : IsReading start done (line ∷ after) all number old) where
  pub piece-more : (new : ObjReader) → TakesLine (number + 1) line old new → IsReading start (done ++ line ∷ []) after all (number + 1) new
  piece-more new takes =
      let before = start ++ done in
      let word = keyword_of (statement line) in
      let elements = arguments line in
      let text = rest line in
      let seam : before ++ line ∷ [] ≡ start ++ (done ++ line ∷ []) = append_assoc start done (line ∷ []) in
      let triangles : triangles_on (done ++ line ∷ []) ≡ triangles_on done + triangles_by word elements = fold-append _ 0 done (line ∷ []) in
      let same : faces_in (number + 1) (counted old) line ≡ faces_in (length before + 1) (above_of before) line =
      ap (λ n. faces_in (n + 1) (counted old) line) read.count
      ∙ ap (λ (a : Above). faces_in (length before + 1) a line) read.above
      ∙ faces_by-triangles (triangles_on done) (above_of before) (length before + 1) word elements in
      record {
        together = append_assoc done (line ∷ []) after ∙ read.together;
        count = omega (arith, read.count, length-append before (line ∷ []), ap (λ (ls : List (List ℕ)). length ls) seam);
        above =
            takes.counts
            ∙ ap (with_line word elements text) read.above
            ∙ with_line-triangles (triangles_on done) (above_of before) word elements text
            ∙ ap₂ with_triangles (sym triangles) (sym (above_of-more before line) ∙ ap above_of seam);
        points = takes.points ∙ ap (λ (ps : List (List ℤ)). ps ++ points_in line) read.points ∙ ap (λ (ps : List (List ℤ)). points_of done ++ ps) (sym (append-nil (points_in line))) ∙ sym (flat_map-append points_in done (line ∷ []));
        faces =
            ap (λ (ls : List (List ℕ)). new.faces ++ map clamped_face (faces_from ls after)) (sym seam)
            ∙ ap (λ (fs : List Face). fs ++ map clamped_face (faces_from (before ++ line ∷ []) after)) (takes.faces ∙ ap (λ (fs : List Face). old.faces ++ map clamped_face fs) same)
            ∙ append_assoc old.faces _ _
            ∙ ap (λ (fs : List Face). old.faces ++ fs) (sym (map-append clamped_face (faces_in (length before + 1) (above_of before) line) (faces_from (before ++ line ∷ []) after)))
            ∙ read.faces;
        sound = λ few.
            let whole : before ++ line ∷ after ≡ start ++ all = append_assoc start done (line ∷ after) ∙ ap (λ (ls : List (List ℕ)). start ++ ls) read.together in
            let sums : triangles_on (before ++ line ∷ after) ≡ triangles_on before + triangles_on (line ∷ after) = sum_by-append _ before (line ∷ after) in
            let rests : triangles_on (line ∷ after) ≡ triangles_on (line ∷ []) + triangles_on after = sum_by-append _ (line ∷ []) after in
            let one : triangles_on (line ∷ []) ≡ 0 + triangles_by word elements = refl in
            let bound : triangles_on before + triangles_by word elements ≤ MAX_TRIANGLES = omega (arith, few, sums, rests, one, ap triangles_on whole) in
            let sound : why (above_of before) line ≡ None =
            why_by-triangles (triangles_on done) (above_of before) word elements text bound (subst (λ (a : Above). why a line ≡ None) read.above takes.sound) in
            let last = read.sound few in
            ap (λ (ls : List (List ℕ)). fault_from ls after) (sym seam) ∙ (rw sound at last);
      }

pub ends : (start done all : List (List ℕ)) (number : ℕ) (r : ObjReader) → IsReading start done [] all number r → HasPiece start all r
ends start done all number r read =
    let e : done ≡ all = sym (append-nil done) ∙ read.together in
    record {
      above = read.above ∙ ap (λ (ls : List (List ℕ)). with_triangles (triangles_on ls) (above_of (start ++ ls))) e;
      points = read.points ∙ ap points_of e;
      faces = sym (append-nil r.faces) ∙ read.faces;
      sound = λ few. sym (read.sound few);
    }

faces_from-append : (before xs ys : List (List ℕ)) → faces_from before (xs ++ ys) ≡ faces_from before xs ++ faces_from (before ++ xs) ys
faces_from-append before [] ys = ap (λ (ls : List (List ℕ)). faces_from ls ys) (sym (append-nil before))
faces_from-append before (x ∷ xs) ys =
    let first = faces_in (length before + 1) (above_of before) x in
    ap (λ (fs : List Face). first ++ fs) (faces_from-append (before ++ x ∷ []) xs ys ∙ ap (λ (ls : List (List ℕ)). faces_from (before ++ x ∷ []) xs ++ faces_from ls ys) (append_assoc before (x ∷ []) xs))
    ∙ sym (append_assoc first (faces_from (before ++ x ∷ []) xs) (faces_from (before ++ x ∷ xs) ys))

fault_or-none : (n : ℕ) (w : Option Why) (later : Option (ℕ × Why)) → fault_or n w later ≡ None → (w ≡ None) × (later ≡ None)
fault_or-none n None later h = (refl, h)
fault_or-none n (Some w) later h = absurd (let f : Some (n, w) ≡ None = h in cc)

fault_from-append : (before xs ys : List (List ℕ)) → fault_from before xs ≡ None → fault_from before (xs ++ ys) ≡ fault_from (before ++ xs) ys
fault_from-append before [] ys h = ap (λ (ls : List (List ℕ)). fault_from ls ys) (sym (append-nil before))
fault_from-append before (x ∷ xs) ys h =
    let none = fault_or-none (length before + 1) (why (above_of before) x) (fault_from (before ++ x ∷ []) xs) h in
    ap (λ (w : Option Why). fault_or (length before + 1) w (fault_from (before ++ x ∷ []) (xs ++ ys))) none.0
    ∙ fault_from-append (before ++ x ∷ []) xs ys none.1
    ∙ ap (λ (ls : List (List ℕ)). fault_from ls ys) (append_assoc before (x ∷ []) xs)

-- what two readers have read stands in one
pub record IsJoin (a b r : ObjReader) : Type 0 where
  pub follows : a.points_above + length a.points ≡ b.points_above
  pub points_above : r.points_above ≡ a.points_above
  pub points : r.points ≡ a.points ++ b.points
  pub faces : r.faces ≡ a.faces ++ b.faces
  pub triangles : r.triangles ≡ a.triangles + b.triangles
  pub names : r.names ≡ b.names
  pub libraries : r.libraries ≡ b.libraries
  pub name : r.name ≡ b.name

module _ (before xs ys : List (List ℕ)) (a b r : ObjReader) (join : IsJoin a b r) (first : HasPiece before xs a) (second : HasPiece (before ++ xs) ys b) where
  pub both-pieces : HasPiece before (xs ++ ys) r
  both-pieces =
      let seam : (before ++ xs) ++ ys ≡ before ++ (xs ++ ys) = append_assoc before xs ys in
      let sums : triangles_on (xs ++ ys) ≡ triangles_on xs + triangles_on ys = sum_by-append _ xs ys in
      let all : triangles_on ((before ++ xs) ++ ys) ≡ triangles_on (before ++ xs) + triangles_on ys = sum_by-append _ (before ++ xs) ys in
      record {
        above = above_same _ _
            (omega (arith, join.follows, join.points_above, ap (λ (ps : List (List ℤ)). length ps) join.points, length-append a.points b.points, ap (λ (w : Above). w.points) second.above, ap points_on seam))
            (omega (arith, join.triangles, sums, ap (λ (w : Above). w.triangles) first.above, ap (λ (w : Above). w.triangles) second.above))
            (join.names ∙ ap (λ (w : Above). w.names) second.above ∙ ap names_of seam)
            (join.libraries ∙ ap (λ (w : Above). w.libraries) second.above ∙ ap libraries_of seam)
            (join.name ∙ ap (λ (w : Above). w.name) second.above ∙ ap name_in_use seam);
        points = join.points ∙ ap₂ (λ (ps qs : List (List ℤ)). ps ++ qs) first.points second.points ∙ sym (flat_map-append points_in xs ys);
        faces =
            join.faces
            ∙ ap₂ (λ (fs gs : List Face). fs ++ gs) first.faces second.faces
            ∙ sym (map-append clamped_face (faces_from before xs) (faces_from (before ++ xs) ys))
            ∙ ap (map clamped_face) (sym (faces_from-append before xs ys));
        sound = λ few.
            let one : triangles_on (before ++ xs) ≤ MAX_TRIANGLES = omega (arith, few, all, ap triangles_on seam) in
            let two : triangles_on ((before ++ xs) ++ ys) ≤ MAX_TRIANGLES = omega (arith, few, ap triangles_on seam) in
            fault_from-append before xs ys (first.sound one) ∙ second.sound two;
      }

-- the piece is all, so each line is sound
pub sound-whole : (all : List (List ℕ)) (r : ObjReader) → r.triangles ≤ MAX_TRIANGLES → HasPiece [] all r → fault_from [] all ≡ None
sound-whole all r few whole = whole.sound (omega (arith, few, ap (λ (w : Above). w.triangles) whole.above))

-- a name that is one of the names is one of more names
pub more-names : (few many : ℕ) (face : Face) → few ≤ many → IsFan few face → IsFan many face
more-names few many face within fan = (fan.0, by face.name fan.1) where
  by : (name : Option ℕ) → IfSome name (λ n. n < few) → IfSome name (λ n. n < many)
  by None h = tt
  by (Some n) h = omega (arith, h)
