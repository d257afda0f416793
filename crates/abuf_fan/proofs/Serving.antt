-- One more number, and the end.
use Rattle.std.proofs.Common.{◌≡◌, ℕ, ◌+◌, ◌*◌, ◌≤◌, Bool, cond, ℤ, List, [], ◌∷◌, ◌++◌, length, take, drop, sym, refl, ap, ◌∙◌, subst, arith, eq-eqb, length-append, append_assoc, append-nil}
use Rattle.std.specs.List.{flat_map}
use Rattle.std.proofs.lemmas.List.{length-drop, nil_from_length}
use Rattle.std.proofs.lemmas.Grind.{flat_map-append}
use Rattle.abuf_raster.specs.Region.{Region}
use Rattle.abuf_raster.specs.Triangle.{Triangle}
use Rattle.abuf_frame.specs.declared.view.View.{View}
use Rattle.abuf_num.proofs.Counting.{times-append}
use Rattle.abuf_frame.specs.Draws.{Draws}
use Rattle.abuf_frame.proofs.Draws.{draws_then}
use Rattle.abuf_fan.proofs.Growing.{grows_once}
use Rattle.abuf_share.specs.declared.rule.TurnView.{TurnView}
use Rattle.abuf_share.specs.Desk.{EachOnceIfWhole, drawing}
use Rattle.abuf_fan.specs.Chunks.{fragments_of, chunk_fragments, chunks_of}
use Rattle.abuf_fan.specs.Workers.{Served}

module _ (ts : List Triangle) (os : List (ℤ × ℤ)) (r : Region) (order : List ℕ) where
  -- The chunks of the numbers with one more are those before, and its chunk.
  one_more : (numbers : List ℕ) (x : ℕ) → flat_map (chunk_fragments ts os r order) (numbers ++ x ∷ []) ≡ flat_map (chunk_fragments ts os r order) numbers ++ chunk_fragments ts os r order x
  one_more numbers x = flat_map-append (chunk_fragments ts os r order) numbers (x ∷ []) ∙ ap (λ (l : List (ℕ × ℕ)). flat_map (chunk_fragments ts os r order) numbers ++ l) (append-nil (chunk_fragments ts os r order x))

  -- One more chunk was drawn.
  pub draws_more : (numbers : List ℕ) (x p : ℕ) (v w u : View) → p ≡ x → Draws (flat_map (chunk_fragments ts os r order) numbers) v w → Draws (chunk_fragments ts os r order p) w u → Draws (flat_map (chunk_fragments ts os r order) (numbers ++ x ∷ [])) v u
  draws_more numbers x p v w u e a b = subst (λ (l : List (ℕ × ℕ)). Draws l v u) (sym (one_more numbers x)) (draws_then (flat_map (chunk_fragments ts os r order) numbers) (chunk_fragments ts os r order x) v w u a (subst (λ (k : ℕ). Draws (chunk_fragments ts os r order k) w u) e b))

  -- A number that is beyond the chunks has no fragments.
  none_beyond : (x : ℕ) → chunks_of (length order) ≤ x → chunk_fragments ts os r order x ≡ []
  none_beyond x l = let d = length-drop (64 * x) order in let e : drop (64 * x) order ≡ [] = nil_from_length (drop (64 * x) order) (omega arith) in ap (λ (xs : List ℕ). flat_map (fragments_of ts os r) (take 64 xs)) e

  module _ (h k k' : TurnView) (numbers : List ℕ) (x : ℕ) (drawn_are : k.drawn ≡ h.drawn ++ numbers) (spent : k.credit + length numbers ≡ h.credit) (some : 1 ≤ k.credit) (next : k' ≡ drawing x k) where
    -- The turn has drawn one more number,
    pub drawn_next : k'.drawn ≡ h.drawn ++ (numbers ++ x ∷ [])
    drawn_next = ap (λ (z : TurnView). z.drawn) next ∙ (ap (λ (l : List ℕ). l ++ x ∷ []) drawn_are ∙ append_assoc h.drawn numbers (x ∷ []))

    -- for one of its credit.
    pub spent_next : k'.credit + length (numbers ++ x ∷ []) ≡ h.credit
    spent_next = let c = ap (λ (z : TurnView). z.credit) next in let l = length-append numbers (x ∷ []) in omega arith

    -- A turn ends at a number beyond the chunks: the chunks of all its numbers have been drawn.
    pub served_ends : (v w : View) → chunks_of (length order) ≤ x → EachOnceIfWhole k' → Draws (flat_map (chunk_fragments ts os r order) numbers) v w → Served ts os r order h k' v w
    served_ends v w l whole d = record {
      numbers = numbers ++ x ∷ [];
      drawn_are = drawn_next;
      spent_turn = spent_next;
      beyond = x;
      taken = let a = times-append x numbers (x ∷ []) in let t = ap (λ (b : Bool). cond {A = ℕ} b 1 0) (eq-eqb x x refl) in omega arith;
      is_beyond = l;
      each_once = whole;
      grows = grows_once _ v w (subst (λ (l : List (ℕ × ℕ)). Draws l v w) (sym (one_more numbers x ∙ (ap (λ (l : List (ℕ × ℕ)). flat_map (chunk_fragments ts os r order) numbers ++ l) (none_beyond x l) ∙ append-nil (flat_map (chunk_fragments ts os r order) numbers)))) d);
    }
