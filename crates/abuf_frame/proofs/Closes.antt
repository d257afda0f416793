-- The closed frame.
use Rattle.std.proofs.Common.{◌≡◌, ℕ, zero, suc, ◌-◌, ◌<◌, List, [], ◌∷◌, length, get_or, sym, ◌∙◌, subst, arith, slice_index, slice_index_or, map}
use mathlib.Core.Option.{some, some-injective, some-ne-none}
use lib.ListN.{get_elem?}
use Rattle.std.proofs.lemmas.List.FromFn.{get_or-map-range_with_len, length-map-range_with_len}
use Rattle.atomic_table.specs.Table.{Final, Seen}
use Rattle.abuf_frame.specs.declared.view.View.{View}
use Rattle.abuf_frame.specs.declared.view.FrameSize.{FrameSize}
use Rattle.abuf_frame.specs.declared.view.Walk.{Walk}
use Rattle.abuf_frame.proofs.Looks.{seen_end}
use Rattle.abuf_frame.specs.Chains.{IsListAt}
use Rattle.abuf_frame.specs.Stages.{payload_of}
use Rattle.abuf_frame.specs.Closing.{AllSeen, IsSuffix, Kept, lists_from, payloads_from}
use Rattle.abuf_frame.specs.Lawful.{AreWalks, Lawful}
use Rattle.abuf_frame.specs.Walks.{payload_at}
use Rattle.abuf_frame.specs.Views.{IsSettled, IsWhole, lost}
use Rattle.abuf_frame.specs.Words.{Sized, head_word}
use Rattle.abuf_frame.specs.Pass.{AllInRange}
use Rattle.abuf_frame.proofs.Claims.{St}
use Rattle.abuf_frame.proofs.Ends.{list_is, lost_mine, only_list, threaded, walk_chain}

-- An element that is found is the one read with a default.
pub got : (l : List ℕ) (i a : ℕ) → get_elem? l i ≡ some a → a ≡ get_or l i 0
got [] i a e = absurd (some-ne-none a (sym e))
got (x ∷ xs) zero a e = sym (some-injective x a e)
got (x ∷ xs) (suc i) a e = got xs i a e

-- There is a list for each pixel.
pub lists_length : (words : List ℕ) (pixels nodes first count : ℕ) → length (lists_from words pixels nodes first count) ≡ count
lists_length words pixels nodes first count = length-map-range_with_len (λ q. payloads_from words pixels nodes (slice_index words (head_word q))) first count

-- what a closed frame promises, of the words that lie under it and the view of the pass that closed it
abbrev pub Good : FrameSize → View → List ℕ → Type 0
Good k v ws = Kept ws k.pixels k.nodes × (lost v.entries ≡ length v.entries - k.nodes) × AllSeen (lists_from ws k.pixels k.nodes 0 k.pixels) v.walks
    × ((p : ℕ) → p < k.pixels → IsListAt p v.entries (slice_index_or (lists_from ws k.pixels k.nodes 0 k.pixels) p []))
    × ((p : ℕ) → p < k.pixels → (l : List ℕ) → IsListAt p v.entries l → l ≡ slice_index_or (lists_from ws k.pixels k.nodes 0 k.pixels) p [])

module _ (k : FrameSize) (id : ℕ) (v : View) (whole : IsWhole v) (settled : IsSettled v) (sized : Sized k.pixels k.nodes) (sound : AllInRange k.pixels k.nodes v.entries) where
  -- the words of the last state of a frame that a whole, settled pass closes
  module _ (s : St) (h : Seen (Lawful k) id v s) where
    -- A pixel's list, the walk from its head, gives the payloads of its chain.
    walked : (p : ℕ) → p < k.pixels → slice_index_or (lists_from s.words k.pixels k.nodes 0 k.pixels) p [] ≡ map (λ n. payload_of (h.0.stage n)) (h.0.chain p)
    walked p on = get_or-map-range_with_len (λ q. payloads_from s.words k.pixels k.nodes (slice_index s.words (head_word q))) 0 k.pixels p p [] on (omega arith) ∙ walk_chain k s h.0 id v h.1 whole settled p on

    -- What finished walks have passed is the end of the list that is closed.
    seen : (ws : List Walk) → AreWalks h.0.stage h.0.chain k.pixels ws → AllSeen (lists_from s.words k.pixels k.nodes 0 k.pixels) ws
    seen [] a = tt
    seen (w ∷ ws) a = ((λ z. subst (IsSuffix (map payload_at w.passed)) (sym (walked w.pixel a.0.on)) (seen_end k s h.0 w a.0 z)), seen ws a.1)

    -- A lawful state whose only pass is whole and settled is good to be closed.
    of_state : Good k v s.words
    of_state = (
      record { sized = sized; wide = h.0.wide; chain = h.0.chain; threaded = λ p on. threaded k s h.0 id v h.1 whole settled p on },
      lost_mine k s h.0 id v h.1 whole sound,
      seen v.walks (h.0.walked id v h.1),
      (λ p on. subst (IsListAt p v.entries) (sym (walked p on)) (list_is k s h.0 id v h.1 whole settled p on)),
      (λ p on l is. only_list k s h.0 id v h.1 whole settled p on l is ∙ sym (walked p on)),
    )

  -- the words of the closed table are those of such a state
  pub closes : (words : List ℕ) (slots : List (Unit {0})) → Final (Seen (Lawful k) id v) words slots → Good k v words
  closes words slots f = subst (Good k v) f.2 (of_state f.0 f.1)
