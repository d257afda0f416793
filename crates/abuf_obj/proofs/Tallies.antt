-- What a tally tells of lines, and the names that it carries from one piece to the next.
use Rattle.std.proofs.Common.{◌≡◌, ◌<◌, ◌+◌, ◌++◌, ◌∷◌, [], ℕ, suc, take, get_or, List, length, Bor, refl, sym, ap, ap₂, ◌∙◌, subst, append_assoc, append-nil, arith}
use Rattle.std.proofs.lemmas.List.{map-append}
use Rattle.std.proofs.Math.Seq.{take-suc}
use Rattle.std.proofs.lemmas.List.Sums.{sum_by-append}
use Rattle.std.proofs.lemmas.List.Concat.{flat_map-append}
use Rattle.abuf_text.specs.Names.{with_names, index_of}
use Rattle.abuf_text.specs.Statement.{statement}
use Rattle.abuf_text.specs.Rest.{rest}
use Rattle.abuf_obj.specs.Keywords.{keyword_of}
use Rattle.abuf_obj.specs.Above.{Above, above_of, points_on, materials_by, libraries_by, materials_on, libraries_on}
use Rattle.abuf_obj.specs.Taking.{counted, name_by, TakesLine}
use Rattle.abuf_obj.specs.Pieces.{name_line_by, name_lines_on, texts, IsTally, HasNames, BeginsBehind}
use Rattle.abuf_obj.specs.declared.keyword.Keyword.{Keyword}
use Rattle.abuf_obj.specs.declared.keyword.Keyword.TheVariants as keyword
use Rattle.abuf_obj.specs.declared.reader.ObjReader.{ObjReader}
use Rattle.abuf_obj.specs.declared.tally.Tally.{Tally}
use Rattle.abuf_obj.proofs.Reading.{above_of-more, named_by}

abbrev name_line : List ℕ → List (List ℕ)
name_line line = name_line_by (keyword_of (statement line)) line

-- a line's name is that of the lines with names
material-one : (line : List ℕ) (word : Keyword) → keyword_of (statement line) ≡ word → materials_on (name_line_by word line) ≡ materials_by word (rest line)
material-one line keyword.Material is = append-nil (materials_by (keyword_of (statement line)) (rest line)) ∙ ap (λ w. materials_by w (rest line)) is
material-one line keyword.Library is = append-nil (materials_by (keyword_of (statement line)) (rest line)) ∙ ap (λ w. materials_by w (rest line)) is
material-one line keyword.Vertex is = refl
material-one line keyword.Face is = refl
material-one line keyword.Passed is = refl
material-one line keyword.Refused is = refl

library-one : (line : List ℕ) (word : Keyword) → keyword_of (statement line) ≡ word → libraries_on (name_line_by word line) ≡ libraries_by word (rest line)
library-one line keyword.Material is = append-nil (libraries_by (keyword_of (statement line)) (rest line)) ∙ ap (λ w. libraries_by w (rest line)) is
library-one line keyword.Library is = append-nil (libraries_by (keyword_of (statement line)) (rest line)) ∙ ap (λ w. libraries_by w (rest line)) is
library-one line keyword.Vertex is = refl
library-one line keyword.Face is = refl
library-one line keyword.Passed is = refl
library-one line keyword.Refused is = refl

same-materials : (ls : List (List ℕ)) → materials_on (name_lines_on ls) ≡ materials_on ls
same-materials [] = refl
same-materials (line ∷ ls) =
    flat_map-append _ (name_line line) (name_lines_on ls)
    ∙ ap₂ (λ (ms ns : List (List ℕ)). ms ++ ns) (material-one line (keyword_of (statement line)) refl) (same-materials ls)

same-libraries : (ls : List (List ℕ)) → libraries_on (name_lines_on ls) ≡ libraries_on ls
same-libraries [] = refl
same-libraries (line ∷ ls) =
    flat_map-append _ (name_line line) (name_lines_on ls)
    ∙ ap₂ (λ (ms ns : List (List ℕ)). ms ++ ns) (library-one line (keyword_of (statement line)) refl) (same-libraries ls)

-- a reader that has the names of the lines with names has those of all the lines
pub names-of-named : (before ls : List (List ℕ)) (r : ObjReader) → HasNames (before ++ name_lines_on ls) r → HasNames (before ++ ls) r
names-of-named before ls r has =
    let materials : materials_on (before ++ name_lines_on ls) ≡ materials_on (before ++ ls) =
    flat_map-append _ before (name_lines_on ls) ∙ ap (λ (ms : List (List ℕ)). materials_on before ++ ms) (same-materials ls) ∙ sym (flat_map-append _ before ls) in
    let libraries : libraries_on (before ++ name_lines_on ls) ≡ libraries_on (before ++ ls) =
    flat_map-append _ before (name_lines_on ls) ∙ ap (λ (ms : List (List ℕ)). libraries_on before ++ ms) (same-libraries ls) ∙ sym (flat_map-append _ before ls) in
    record { names = has.names ∙ ap (with_names []) materials; libraries = has.libraries ∙ ap (with_names []) libraries; name = has.name ∙ ap named_by materials }

name_by-same : (a b : Above) (word : Keyword) (text : List ℕ) → a.names ≡ b.names → a.name ≡ b.name → name_by word text a ≡ name_by word text b
name_by-same a b keyword.Material text names name = ap (λ (ns : List (List ℕ)). index_of text (with_names ns (text ∷ []))) names
name_by-same a b keyword.Vertex text names name = name
name_by-same a b keyword.Face text names name = name
name_by-same a b keyword.Library text names name = name
name_by-same a b keyword.Passed text names name = name
name_by-same a b keyword.Refused text names name = name

-- a line was taken
pub names-more : (before : List (List ℕ)) (number : ℕ) (line : List ℕ) (old new : ObjReader) → HasNames before old → TakesLine number line old new → HasNames (before ++ line ∷ []) new
names-more before number line old new has takes =
    let more = above_of-more before line in
    let word = keyword_of (statement line) in
    record {
      names = ap (λ (a : Above). a.names) takes.counts ∙ ap (λ (ns : List (List ℕ)). with_names ns (materials_by word (rest line))) has.names ∙ sym (ap (λ (a : Above). a.names) more);
      libraries = ap (λ (a : Above). a.libraries) takes.counts ∙ ap (λ (ns : List (List ℕ)). with_names ns (libraries_by word (rest line))) has.libraries ∙ sym (ap (λ (a : Above). a.libraries) more);
      name = ap (λ (a : Above). a.name) takes.counts ∙ name_by-same (counted old) (above_of before) word (rest line) has.names has.name ∙ sym (ap (λ (a : Above). a.name) more);
    }

-- a reader begins behind a piece
pub begins-behind : (before ls : List (List ℕ)) (tally : Tally) (old named new : ObjReader) → BeginsBehind before old → IsTally ls tally
    → HasNames (before ++ texts tally.named.items) named → new.points_above ≡ old.points_above + length old.points + tally.points → new.points ≡ []
    → new.names ≡ named.names → new.libraries ≡ named.libraries → new.name ≡ named.name → BeginsBehind (before ++ ls) new
begins-behind before ls tally old named new begin is has above none names libraries name =
    let all = names-of-named before ls named (subst (λ (ks : List (List ℕ)). HasNames (before ++ ks) named) is.named has) in
    let sums : points_on (before ++ ls) ≡ points_on before + points_on ls = sum_by-append _ before ls in
    record {
      points = omega (arith, above, ap (λ (ps : List _). length ps) none, begin.points, is.points, sums);
      names = record { names = names ∙ all.names; libraries = libraries ∙ all.libraries; name = name ∙ all.name };
    }

-- one more of the lines
pub texts-more : (before : List (List ℕ)) (ls : List (Bor (List ℕ))) (k : ℕ) (d : Bor (List ℕ)) → k < length ls → (before ++ texts (take k ls)) ++ (get_or ls k d).now ∷ [] ≡ before ++ texts (take (k + 1) ls)
texts-more before ls k d within =
    let one : suc k ≡ k + 1 = omega arith in
    append_assoc before (texts (take k ls)) _
    ∙ ap (λ (ts : List (List ℕ)). before ++ ts) (sym (map-append _ (take k ls) (get_or ls k d ∷ [])) ∙ ap texts (sym (take-suc ls k d within) ∙ ap (λ (n : ℕ). take n ls) one))
