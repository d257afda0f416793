-- What a drawing and its watcher give together.
use Rattle.std.proofs.Common.{◌≡◌, ℕ, ◌+◌, ◌-◌, ◌*◌, ◌≤◌, ◌<◌, max, List, [], ◌∷◌, ◌++◌, length, refl, sym, ap, ap₂, subst, ◌∙◌, arith, append-nil}
use Rattle.std.specs.List.{AllByRecursion, AllZip}
use Rattle.std.specs.List.Sorted.{IsPermutation}
use Rattle.abuf_frame.specs.declared.view.Entry.{Entry}
use Rattle.abuf_frame.specs.declared.view.Walk.{Walk}
use Rattle.abuf_frame.specs.declared.view.View.{View}
use Rattle.abuf_frame.specs.Closing.{AllSeen, Ended, list_at}
use Rattle.abuf_frame.specs.Draws.{Adds, pairs, payloads_at}
use Rattle.abuf_frame.specs.Steps.{split_left, split_right, united}
use Rattle.abuf_frame.specs.Views.{lost, whole_view}
use Rattle.abuf_raster.specs.declared.pattern.Pattern.{Pattern}
use Rattle.abuf_raster.specs.Region.{Region}
use Rattle.abuf_raster.specs.Triangle.{Triangle}
use Rattle.abuf_resolve.specs.Words.{AreWordsAt}
use Rattle.abuf_fan.specs.Grows.{Grows}
use Rattle.abuf_picture.specs.Picture.{IsFrameOf, fragments, total}
use Rattle.abuf_watching.specs.declared.looks.Looks.{Looks}
use Rattle.abuf_watching.specs.Looking.{LooksAround}
use Rattle.abuf_watching.specs.Watching.{HasLooked, IsSight, IsWatched}

-- What holds of two lists together holds of the first.
all_front : {X : Type 0} (P : X → Type 0) (xs ys : List X) → AllByRecursion P (xs ++ ys) → AllByRecursion P xs
all_front P [] ys a = tt
all_front P (x ∷ xs) ys a = (a.0, all_front P xs ys a.1)

-- What follows at each place holds at each place.
all_then : {X Y : Type 0} (P Q : X → Y → Type 0) → ((x : X) (y : Y) → P x y → Q x y) → (xs : List X) (ys : List Y) → AllZip P xs ys → AllZip Q xs ys
all_then P Q f [] [] a = tt
all_then P Q f [] (y ∷ ys) a = a
all_then P Q f (x ∷ xs) [] a = a
all_then P Q f (x ∷ xs) (y ∷ ys) a = (f x y a.0, all_then P Q f xs ys a.1)

-- Where all entries are those of the fragments, a last look sees the words of the fragments.
sight_words : (items : List (ℕ × ℕ)) (es : List Entry) → IsPermutation (pairs es) items → (place : ℕ) (words : List ℕ) → IsSight items es place words → AreWordsAt items place words
sight_words items es all place words s = record { entries = pairs es; drawn = all; here = s all }

module _ (items : List (ℕ × ℕ)) (room : ℕ) (places : List ℕ) (looks : Looks) (v v1 v2 w1 w2 u z : View) (fresh : v ≡ whole_view) (left : v1 ≡ split_left 0 v) (right : w1 ≡ split_right 0 v)
    (g : Grows items v1 v2) (l : LooksAround room places w1 w2 looks) (joined : u ≡ united v2 w2) (last : HasLooked u z) where
  -- The left pass begins with no entries,
  none_left : v1.entries ≡ []
  none_left = ap (λ (x : View). x.entries) left ∙ ap (λ (x : View). x.entries) fresh

  -- and so does the watcher,
  none_right : w2.entries ≡ []
  none_right = l.saw.entries ∙ ap (λ (x : View). x.entries) right

  -- who makes none,
  joined_entries : u.entries ≡ g.added
  joined_entries = ap (λ (x : View). x.entries) joined
      ∙ (ap₂ (λ (es fs : List Entry). es ++ fs) (g.entries_are ∙ ap (λ (es : List Entry). es ++ g.added) none_left) none_right ∙ append-nil g.added)

  -- so the entries in the end are those that were drawn.
  pub end_entries : z.entries ≡ g.added
  end_entries = last.saw.entries ∙ joined_entries

  pub end_adds : Adds items z.entries
  end_adds = subst (Adds items) (sym end_entries) g.adds

  pub sights_adds : Adds items u.entries
  sights_adds = subst (Adds items) (sym joined_entries) g.adds

  -- The watcher's walks come first.
  pub end_walks : z.walks ≡ l.walks ++ last.walks
  end_walks = last.saw.walks_are ∙ ap (λ (xs : List Walk). xs ++ last.walks) (ap (λ (x : View). x.walks) joined
      ∙ ap₂ (λ (xs ys : List Walk). xs ++ ys) (g.walks_are ∙ (ap (λ (x : View). x.walks) left ∙ ap (λ (x : View). x.walks) fresh))
      (l.saw.walks_are ∙ ap (λ (xs : List Walk). xs ++ l.walks) (ap (λ (x : View). x.walks) right)))

  -- No more numbers were seen than there are fragments.
  pub end_seen : looks.last ≤ length items
  end_seen = let a = l.after in let e : u.seen ≡ max v2.seen w2.seen = ap (λ (x : View). x.seen) joined in let b = last.saw.seen in let d = last.seen in
      let f : length u.entries ≡ length items = sights_adds.count in omega arith

module _ (triangles : List Triangle) (pattern : Pattern) (r : Region) (nodes : ℕ) (z : View) (closed : Ended)
    (pixels_are : closed.pixels ≡ r.w * r.h) (nodes_are : closed.nodes ≡ nodes) (each : length closed.lists ≡ r.w * r.h) (adds : Adds (fragments triangles pattern r) z.entries)
    (count : closed.fragments ≡ length z.entries) (lists : (p : ℕ) → p < r.w * r.h → IsPermutation (list_at closed p) (payloads_at p (pairs z.entries)))
    (kept : length z.entries ≤ nodes → lost z.entries ≡ 0) (short : lost z.entries ≡ length z.entries - nodes) where
  -- Where the fragments fit, all are there.
  pub all_there : total triangles pattern r ≤ nodes → IsPermutation (pairs z.entries) (fragments triangles pattern r)
  all_there fit = adds.carried (kept (subst (λ (n : ℕ). n ≤ nodes) (sym adds.count) fit))

  -- The closed frame has them.
  pub frame_of : IsFrameOf triangles pattern r nodes closed
  frame_of = record {
    pixels_are = pixels_are;
    nodes_are = nodes_are;
    count = count ∙ adds.count;
    each = each;
    lists = λ fit. record {
      entries = pairs z.entries;
      drawn = all_there fit;
      each = λ p within. lists p (subst (λ (n : ℕ). p < n) each within);
    };
    kept = record {
      entries = pairs z.entries;
      rest = adds.rest;
      many = adds.missing ∙ (short ∙ ap (λ (n : ℕ). n - nodes) adds.count);
      drawn = adds.kept;
      each = λ p within. lists p (subst (λ (n : ℕ). p < n) each within);
    };
  }

-- All together.
pub watched : (room : ℕ) (triangles : List Triangle) (pattern : Pattern) (r : Region) (nodes : ℕ) (places : List ℕ) (looks : Looks) (words : List (List ℕ)) (closed : Ended) (v v1 v2 w1 w2 u z : View)
    → v ≡ whole_view → v1 ≡ split_left 0 v → w1 ≡ split_right 0 v → (g : Grows (fragments triangles pattern r) v1 v2) → (l : LooksAround room places w1 w2 looks) → (j : u ≡ united v2 w2) → (h : HasLooked u z)
    → AllZip (IsSight (fragments triangles pattern r) u.entries) places words
    → closed.pixels ≡ r.w * r.h → closed.nodes ≡ nodes → length closed.lists ≡ r.w * r.h → closed.fragments ≡ length z.entries
    → ((p : ℕ) → p < r.w * r.h → IsPermutation (list_at closed p) (payloads_at p (pairs z.entries))) → (length z.entries ≤ nodes → lost z.entries ≡ 0) → lost z.entries ≡ length z.entries - nodes → AllSeen closed.lists z.walks
    → IsWatched room triangles pattern r nodes places looks words closed
watched room triangles pattern r nodes places looks words closed v v1 v2 w1 w2 u z fresh left right g l joined last sights pixels_are nodes_are each count lists kept short seen =
    let items = fragments triangles pattern r in
    let adds : Adds items z.entries = end_adds items room places looks v v1 v2 w1 w2 u z fresh left right g l joined last in
    let walks : z.walks ≡ l.walks ++ last.walks = end_walks items room places looks v v1 v2 w1 w2 u z fresh left right g l joined last in
    record {
      frame = frame_of triangles pattern r nodes z closed pixels_are nodes_are each adds count lists kept short;
      walks = l.walks;
      turns = l.turns;
      counts = l.counts;
      passed = all_front _ l.walks last.walks (subst (AllSeen closed.lists) walks seen);
      between = l.between;
      before = end_seen items room places looks v v1 v2 w1 w2 u z fresh left right g l joined last;
      last = λ fit. all_then (IsSight items u.entries) (AreWordsAt items)
          (sight_words items u.entries (subst (λ (es : List Entry). IsPermutation (pairs es) items) last.saw.entries (all_there triangles pattern r nodes z closed pixels_are nodes_are each adds count lists kept short fit)))
          places words sights;
    }
