-- One last look more.
use Rattle.std.proofs.Common.{◌≡◌, ℕ, ◌+◌, ◌≤◌, ◌<◌, List, [], ◌∷◌, ◌++◌, length, take, slice_index_or, sym, ap, subst, ◌∙◌, arith, append_assoc}
use Rattle.std.specs.List.{AllZip}
use Rattle.std.specs.List.Sorted.{IsPermutation}
use Rattle.std.proofs.lemmas.List.{take_more}
use Rattle.std.proofs.lemmas.Slice.Zip.{all_zipped_more}
use Rattle.abuf_frame.specs.declared.view.Entry.{Entry}
use Rattle.abuf_frame.specs.declared.view.Walk.{Walk}
use Rattle.abuf_frame.specs.declared.view.View.{View}
use Rattle.abuf_frame.specs.Draws.{pairs, payloads_at}
use Rattle.abuf_resolve.specs.Laws.{HasOneEach}
use Rattle.abuf_watching.specs.Looking.{Saw}
use Rattle.abuf_watching.specs.Watching.{HasLooked, IsSight}

-- A pass that has looked has looked once more.
pub looked_more : (v w u : View) (x : Walk) → HasLooked v w → Saw (x ∷ []) w u → u.seen ≡ w.seen → HasLooked v u
looked_more v w u x h s e = let a = h.saw in let less = a.seen in record {
  walks = h.walks ++ x ∷ [];
  saw = record {
    credit = s.credit ∙ a.credit;
    entries = s.entries ∙ a.entries;
    told = s.told ∙ a.told;
    seen = omega arith;
    walks_are = s.walks_are ∙ (ap (λ (xs : List Walk). xs ++ x ∷ []) a.walks_are ∙ append_assoc v.walks h.walks (x ∷ []));
  };
  seen = e ∙ h.seen;
}

-- Where there is room for as many words as the place can have, a look sees them all.
pub sight_here : (items : List (ℕ × ℕ)) (es now : List Entry) (place most room : ℕ) (words : List ℕ) → now ≡ es → HasOneEach items place most → room ≡ most
    → (length (payloads_at place (pairs now)) ≤ room → IsPermutation words (payloads_at place (pairs now))) → IsSight items es place words
sight_here items es now place most room words same few is see =
    λ all. subst (λ (e : List Entry). IsPermutation words (payloads_at place (pairs e))) same
    (see (subst (λ (n : ℕ). length (payloads_at place (pairs now)) ≤ n) (sym is) (few (pairs now) (subst (λ (e : List Entry). IsPermutation (pairs e) items) (sym same) all))))

-- The places looked at so far, and one more.
pub sights_more : (items : List (ℕ × ℕ)) (es : List Entry) (places : List ℕ) (i place : ℕ) (seen more : List (List ℕ)) (words : List ℕ) → i < length places → place ≡ slice_index_or places i 0
    → more ≡ seen ++ words ∷ [] → AllZip (IsSight items es) (take i places) seen → IsSight items es place words → AllZip (IsSight items es) (take (i + 1) places) more
sights_more items es places i place seen more words within is longer so one =
    subst (λ (ws : List (List ℕ)). AllZip (IsSight items es) (take (i + 1) places) ws) (sym longer)
    (subst (λ (ps : List ℕ). AllZip (IsSight items es) ps (seen ++ words ∷ [])) (ap (λ (p : ℕ). take i places ++ p ∷ []) is ∙ sym (take_more places i 0 within))
    (all_zipped_more (IsSight items es) (take i places) seen place words so one))
