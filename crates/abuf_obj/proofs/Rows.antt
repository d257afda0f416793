-- Rows of faces one after another.
use Rattle.std.proofs.Common.{◌≡◌, ◌∙◌, ◌+◌, ◌≤◌, ◌<◌, ◌++◌, ◌∷◌, [], ℕ, zero, suc, List, false, None, nat_le, take, drop, length, refl, sym, ap, ap₂, arith, All}
use Rattle.std.specs.List.{list_any}
use Rattle.std.proofs.lemmas.Bool.Decides.{nat_tests}
use Rattle.std.proofs.lemmas.List.Elements.{All-head, All-tail, All-take, All-drop}
use Rattle.std.proofs.lemmas.List.{take-append-le, drop-append-le, length-drop, length-take-le, take_all, take-take, drop-take, drop-drop}
use Rattle.abuf_obj.specs.declared.face.Face.{Face}
use Rattle.abuf_obj.specs.declared.faces.FaceRow.{FaceRow}
use Rattle.abuf_obj.specs.FaceRows.{corners_in, corners_of, faces_in_rows}
use Rattle.abuf_obj.specs.Scene.{astray_line}

pub corners-append : (rows more : List FaceRow) → corners_in (rows ++ more) ≡ corners_in rows + corners_in more
corners-append [] more = omega arith
corners-append (row ∷ rows) more = let e = corners-append rows more in omega (arith, e)

-- the faces of some rows, and then those of more of them
pub rows-append : (cs ds : List ℕ) (rows more : List FaceRow) → corners_in rows ≡ length cs → faces_in_rows (cs ++ ds) (rows ++ more) ≡ faces_in_rows cs rows ++ faces_in_rows ds more
rows-append [] ds [] more e = refl
rows-append (c ∷ cs) ds [] more e = absurd (omega (arith, e))
rows-append cs ds (row ∷ rows) more e =
    let l : row.count ≤ length cs = omega (arith, e) in
    let left : corners_in rows ≡ length (drop row.count cs) = let d = length-drop row.count cs in omega (arith, e, d) in
    let later = rows-append (drop row.count cs) ds rows more left in
    ap₂ (λ (xs : List ℕ) (fs : List Face). record { line = row.line; corners = xs; name = row.name } ∷ fs)
    (take-append-le row.count cs ds l)
    (ap (λ (xs : List ℕ). faces_in_rows xs (rows ++ more)) (drop-append-le row.count cs ds l) ∙ later)

-- one row
pub one-row : (ds : List ℕ) (row : FaceRow) → row.count ≡ length ds → faces_in_rows ds (row ∷ []) ≡ record { line = row.line; corners = ds; name = row.name } ∷ []
one-row ds row e = ap (λ (xs : List ℕ). record { line = row.line; corners = xs; name = row.name } ∷ []) (take_all row.count ds (omega (arith, e)))

-- there is a face for each row
pub rows-length : (cs : List ℕ) (rows : List FaceRow) → length (faces_in_rows cs rows) ≡ length rows
rows-length cs [] = refl
rows-length cs (row ∷ rows) = let e = rows-length (drop row.count cs) rows in omega (arith, e)

-- the first rows and the later ones have all corners
pub corners-split : (n : ℕ) (rows : List FaceRow) → corners_in (take n rows) + corners_in (drop n rows) ≡ corners_in rows
corners-split zero rows = omega arith
corners-split (suc n) [] = refl
corners-split (suc n) (row ∷ rows) = let e = corners-split n rows in omega (arith, e)

-- some of the rows have no more corners than all
pub corners-take : (n : ℕ) (rows : List FaceRow) → corners_in (take n rows) ≤ corners_in rows
corners-take zero rows = omega arith
corners-take (suc n) [] = omega arith
corners-take (suc n) (row ∷ rows) = let e = corners-take n rows in omega (arith, e)

-- the first rows have the first faces
pub rows-take : (n : ℕ) (cs : List ℕ) (rows : List FaceRow) → faces_in_rows (take (corners_in (take n rows)) cs) (take n rows) ≡ take n (faces_in_rows cs rows)
rows-take zero cs rows = refl
rows-take (suc n) cs [] = refl
rows-take (suc n) cs (row ∷ rows) =
    let k = corners_in (take n rows) in
    ap₂ (λ (xs : List ℕ) (fs : List Face). record { line = row.line; corners = xs; name = row.name } ∷ fs)
    (take-take row.count (row.count + k) cs (omega arith))
    (ap (λ (xs : List ℕ). faces_in_rows xs (take n rows)) (drop-take row.count k cs) ∙ rows-take n (drop row.count cs) rows)

-- and the later rows the later faces
pub rows-drop : (n : ℕ) (cs : List ℕ) (rows : List FaceRow) → faces_in_rows (drop (corners_in (take n rows)) cs) (drop n rows) ≡ drop n (faces_in_rows cs rows)
rows-drop zero cs rows = refl
rows-drop (suc n) cs [] = refl
rows-drop (suc n) cs (row ∷ rows) =
    ap (λ (xs : List ℕ). faces_in_rows xs (drop n rows)) (sym (drop-drop (corners_in (take n rows)) row.count cs)) ∙ rows-drop n (drop row.count cs) rows

-- the faces have the corners of the rows
pub rows-corners : (cs : List ℕ) (rows : List FaceRow) → corners_in rows ≡ length cs → corners_of (faces_in_rows cs rows) ≡ corners_in rows
rows-corners cs [] e = refl
rows-corners cs (row ∷ rows) e =
    let own = length-take-le row.count cs (omega (arith, e)) in
    let fewer = length-drop row.count cs in
    let left : corners_in rows ≡ length (drop row.count cs) = omega (arith, e, fewer) in
    let later = rows-corners (drop row.count cs) rows left in
    omega (arith, own, later)

-- no corner of a list goes astray that has them all below the number of points
within-any : (points : ℕ) (cs : List ℕ) → All (λ c. c < points) cs → list_any (λ c. nat_le points c) cs ≡ false
within-any points [] h = refl
within-any points (c ∷ cs) h =
    let below : c < points = All-head (λ (k : ℕ). k < points) c cs h in
    let here : nat_le points c ≡ false = grind (arith, nat_tests) in
    rw (here, within-any points cs (All-tail (λ (k : ℕ). k < points) c cs h)) refl

-- where the rows' corners are below the number of points, no face goes astray
pub rows-within : (points : ℕ) (cs : List ℕ) (rows : List FaceRow) → All (λ c. c < points) cs → astray_line points (faces_in_rows cs rows) ≡ None
rows-within points cs [] h = refl
rows-within points cs (row ∷ rows) h =
    let here = within-any points (take row.count cs) (All-take (λ (k : ℕ). k < points) row.count cs h) in
    rw (here, rows-within points (drop row.count cs) rows (All-drop (λ (k : ℕ). k < points) row.count cs h)) refl
