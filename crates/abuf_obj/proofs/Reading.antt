-- What has been read of the lines so far.
use Rattle.std.proofs.Common.{◌≡◌, ◌+◌, ◌++◌, ◌∷◌, [], ℕ, List, map, length, Option, None, Some, Bor, option_and_then, sym, ap, ◌∙◌, subst, append_assoc, append-nil, length-append, arith}
use Rattle.std.proofs.lemmas.List.{map-append}
use Rattle.std.proofs.lemmas.List.Sums.{fold-append}
use Rattle.std.proofs.lemmas.List.Concat.{flat_map-append}
use Rattle.abuf_text.specs.Names.{with_name, with_names, index_of}
use Rattle.abuf_text.specs.Statement.{statement, arguments}
use Rattle.abuf_text.specs.Rest.{rest}
use Rattle.abuf_obj.specs.Keywords.{keyword_of}
use Rattle.abuf_obj.specs.Above.{Above, above_of, materials_on, libraries_on, materials_by, libraries_by, last_of}
use Rattle.abuf_obj.specs.Faults.{why, fault_from}
use Rattle.abuf_obj.specs.Scene.{points_of, points_in, faces_in, faces_from}
use Rattle.abuf_obj.specs.Vertices.{clamped_face}
use Rattle.abuf_obj.specs.Taking.{counted, with_line, name_by, TakesLine}
use Rattle.abuf_obj.specs.declared.keyword.Keyword.{Keyword}
use Rattle.abuf_obj.specs.declared.keyword.Keyword.TheVariants as keyword
use Rattle.abuf_obj.specs.declared.face.Face.{Face}
use Rattle.abuf_obj.specs.declared.reader.ObjReader.{ObjReader}

abbrev pub texts : List (Bor (List ℕ)) → List (List ℕ)
texts lines = map (λ line. line.now) lines

-- `before` was read, `after` follows, and together they are `all`
pub record HasRead (before after all : List (List ℕ)) (number : ℕ) (r : ObjReader) : Type 0 where
  pub together : before ++ after ≡ all
  pub count : number ≡ length before
  pub fault : fault_from before after ≡ fault_from [] all
  pub above : counted r ≡ above_of before
  pub points : r.points ≡ points_of before
  pub faces : r.faces ++ map clamped_face (faces_from before after) ≡ map clamped_face (faces_from [] all)

module _ (before : List (List ℕ)) (line : List ℕ) where
  pub materials_on-more : materials_on (before ++ line ∷ []) ≡ materials_on before ++ materials_by (keyword_of (statement line)) (rest line)
  materials_on-more = flat_map-append _ before (line ∷ []) ∙ ap (λ (ns : List (List ℕ)). materials_on before ++ ns) (append-nil (materials_by (keyword_of (statement line)) (rest line)))

  libraries_on-more : libraries_on (before ++ line ∷ []) ≡ libraries_on before ++ libraries_by (keyword_of (statement line)) (rest line)
  libraries_on-more = flat_map-append _ before (line ∷ []) ∙ ap (λ (ns : List (List ℕ)). libraries_on before ++ ns) (append-nil (libraries_by (keyword_of (statement line)) (rest line)))

abbrev pub named_by : List (List ℕ) → Option ℕ
named_by ms = option_and_then (λ text. index_of text (with_names [] ms)) (last_of ms)

name_of-last : (ms : List (List ℕ)) (text : List ℕ) → named_by (ms ++ text ∷ []) ≡ index_of text (with_names (with_names [] ms) (text ∷ []))
name_of-last ms text =
    let last : last_of (ms ++ text ∷ []) ≡ Some text = fold-append _ None ms (text ∷ []) in
    ap (option_and_then (λ t. index_of t (with_names [] (ms ++ text ∷ [])))) last ∙ ap (index_of text) (fold-append with_name [] ms (text ∷ []))

name_of-more : (before : List (List ℕ)) (word : Keyword) (text : List ℕ) → named_by (materials_on before ++ materials_by word text) ≡ name_by word text (above_of before)
name_of-more before keyword.Material text = name_of-last (materials_on before) text
name_of-more before keyword.Vertex text = ap named_by (append-nil (materials_on before))
name_of-more before keyword.Face text = ap named_by (append-nil (materials_on before))
name_of-more before keyword.Library text = ap named_by (append-nil (materials_on before))
name_of-more before keyword.Passed text = ap named_by (append-nil (materials_on before))
name_of-more before keyword.Refused text = ap named_by (append-nil (materials_on before))

pub above_same : (a b : Above) → a.points ≡ b.points → a.triangles ≡ b.triangles → a.names ≡ b.names → a.libraries ≡ b.libraries → a.name ≡ b.name → a ≡ b
above_same a b p t n l m = λ i. record { points = p i; triangles = t i; names = n i; libraries = l i; name = m i }

-- what is counted behind one line more
pub above_of-more : (before : List (List ℕ)) (line : List ℕ) → above_of (before ++ line ∷ []) ≡ with_line (keyword_of (statement line)) (arguments line) (rest line) (above_of before)
above_of-more before line =
    above_same _ _
    (fold-append _ 0 before (line ∷ []))
    (fold-append _ 0 before (line ∷ []))
    (ap (with_names []) (materials_on-more before line) ∙ fold-append with_name [] (materials_on before) _)
    (ap (with_names []) (libraries_on-more before line) ∙ fold-append with_name [] (libraries_on before) _)
    (ap named_by (materials_on-more before line) ∙ name_of-more before (keyword_of (statement line)) (rest line))

module _ (before after all : List (List ℕ)) (number : ℕ) (old : ObjReader) (line : List ℕ) (read : HasRead before (line ∷ after) all number old) where
  pub read-more : (new : ObjReader) → TakesLine (number + 1) line old new → HasRead (before ++ line ∷ []) after all (number + 1) new
  read-more new takes =
      let sound : why (above_of before) line ≡ None = subst (λ (a : Above). why a line ≡ None) read.above takes.sound in
      let same : faces_in (number + 1) (counted old) line ≡ faces_in (length before + 1) (above_of before) line =
      ap (λ n. faces_in (n + 1) (counted old) line) read.count ∙ ap (λ (a : Above). faces_in (length before + 1) a line) read.above in
      record {
        together = append_assoc before (line ∷ []) after ∙ read.together;
        count = omega (arith, read.count, length-append before (line ∷ []));
        fault = rw sound at read.fault;
        above = takes.counts ∙ ap (with_line (keyword_of (statement line)) (arguments line) (rest line)) read.above ∙ sym (above_of-more before line);
        points = takes.points ∙ ap (λ (ps : List _). ps ++ points_in line) read.points ∙ ap (λ (ps : List _). points_of before ++ ps) (sym (append-nil (points_in line))) ∙ sym (flat_map-append points_in before (line ∷ []));
        faces =
            ap (λ (fs : List Face). fs ++ map clamped_face (faces_from (before ++ line ∷ []) after)) (takes.faces ∙ ap (λ (fs : List Face). old.faces ++ map clamped_face fs) same)
            ∙ append_assoc old.faces _ _
            ∙ ap (λ (fs : List Face). old.faces ++ fs) (sym (map-append clamped_face (faces_in (length before + 1) (above_of before) line) (faces_from (before ++ line ∷ []) after)))
            ∙ read.faces;
      }
