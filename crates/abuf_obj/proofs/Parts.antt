-- Readers of neighbouring pieces, of which the first are joined.
use Rattle.std.proofs.Common.{◌≡◌, ◌≤◌, ◌++◌, [], ◌∷◌, List, ℕ, length, append_assoc, append-nil, subst, sym, ap, ◌∙◌, arith}
use Rattle.std.specs.Prelude.{slice_index_or, remove}
use Rattle.abuf_obj.specs.declared.reader.ObjReader.{ObjReader}
use Rattle.abuf_obj.specs.Pieces.{HasPiece, HavePieces}

-- The reader has the first of these lines, and the others have the rest.
pub record AreJoined (before lines : List (List ℕ)) (all : ObjReader) (others : List ObjReader) : Type 0 where
  pub front : List (List ℕ)
  pub back : List (List ℕ)
  pub lines_are : lines ≡ front ++ back
  pub joined : HasPiece before front all
  pub left : HavePieces others (before ++ front) back

module _ (before lines : List (List ℕ)) where
  -- The first reader alone.
  pub joined_first : (readers others : List ObjReader) (first : ObjReader) → 1 ≤ length readers → first ≡ slice_index_or readers 0 first → others ≡ remove readers 0
      → HavePieces readers before lines → AreJoined before lines first others
  joined_first [] others first some e w have = absurd (omega (arith, some))
  joined_first (r ∷ rs) others first some e w have = record {
    front = have.front;
    back = have.back;
    lines_are = have.all;
    joined = subst (HasPiece before have.front) (sym e) have.has;
    left = subst (λ (readers : List ObjReader). HavePieces readers (before ++ have.front) have.back) (sym w) have.others;
  }

  -- The next reader joined to those before it.
  pub joined_next : (all new next : ObjReader) (readers others : List ObjReader) → readers ≡ next ∷ others
      → ((xs ys : List (List ℕ)) → HasPiece before xs all → HasPiece (before ++ xs) ys next → HasPiece before (xs ++ ys) new)
      → AreJoined before lines all readers → AreJoined before lines new others
  joined_next all new next readers others e step h =
      let k : AreJoined before lines all (next ∷ others) = subst (AreJoined before lines all) e h in
      let later = k.left in
      record {
        front = k.front ++ later.front;
        back = later.back;
        lines_are = k.lines_are ∙ (ap (λ (ls : List (List ℕ)). k.front ++ ls) later.all ∙ sym (append_assoc k.front later.front later.back));
        joined = step k.front later.front k.joined later.has;
        left = subst (λ (ls : List (List ℕ)). HavePieces others ls later.back) (append_assoc before k.front later.front) later.others;
      }

  -- All readers joined.
  pub joined_last : (all : ObjReader) (readers : List ObjReader) → length readers ≡ 0 → AreJoined before lines all readers → HasPiece before lines all
  joined_last all (r ∷ rs) none h = absurd (omega (arith, none))
  joined_last all [] none h = subst (λ (ls : List (List ℕ)). HasPiece before ls all) (sym (h.lines_are ∙ (ap (λ (ls : List (List ℕ)). h.front ++ ls) h.left ∙ append-nil h.front))) h.joined
