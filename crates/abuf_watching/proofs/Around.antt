-- One look more.
use Rattle.std.proofs.Common.{◌≡◌, ℕ, ◌+◌, ◌≤◌, Bool, true, false, if◌then◌else◌, eqb, nat_lt, List, [], ◌∷◌, ◌++◌, length, map, count_by, sum_by, refl, sym, ap, ap₂, subst, ◌∙◌, arith, append-nil, append_assoc, length-append}
use Rattle.std.proofs.lemmas.List.{map-append}
use Rattle.std.proofs.lemmas.List.FromFn.{map-range_with_len_more}
use Rattle.std.proofs.lemmas.List.Sums.{sum_by-append, sum_by-cons}
use Rattle.std.specs.List.{AllByRecursion, range_with_len}
use Rattle.abuf_frame.specs.declared.view.Entry.{Entry}
use Rattle.abuf_frame.specs.declared.view.Walk.{Walk}
use Rattle.abuf_frame.specs.declared.view.View.{View}
use Rattle.abuf_frame.specs.Steps.{having_seen}
use Rattle.abuf_frame.specs.Views.{due_of, linked_of, at_pixel}
use Rattle.abuf_watching.specs.declared.looks.Looks.{Looks}
use Rattle.abuf_watching.specs.Looking.{AreCounts, FindsDue, LooksAround, LooksOnce, Saw, is_short, is_stopped, is_whole, turn_at}

-- There were so many looks.
abbrev pub Looked : ℕ → List ℕ → View → View → Looks → ℕ → Type 0
Looked room places v w looks turn = (l : LooksAround room places v w looks) × (length l.walks ≡ turn)

-- Before the first look.
pub looks_none : (room : ℕ) (places : List ℕ) (first : ℕ) (v w : View) → w ≡ having_seen first v → v.seen ≤ first
    → Looked room places v w (record { first = first; last = first; whole = 0; unlinked = 0; more = 0 }) 0
looks_none room places first v w is less = (
  record {
    walks = [];
    saw = record {
      credit = ap (λ (u : View). u.credit) is;
      entries = ap (λ (u : View). u.entries) is;
      told = ap (λ (u : View). u.told) is;
      seen = subst (λ (n : ℕ). v.seen ≤ n) (sym (ap (λ (u : View). u.seen) is)) less;
      walks_are = ap (λ (u : View). u.walks) is ∙ sym (append-nil v.walks);
    };
    turns = refl;
    found = tt;
    counts = record { whole = refl; unlinked = refl; more = refl; all = refl };
    before = less;
    between = omega arith;
    after = sym (ap (λ (u : View). u.seen) is);
  },
  refl,
)

-- One count more.
count_more : {X : Type 0} (p : X → Bool) (xs : List X) (x : X) → count_by p (xs ++ x ∷ []) ≡ count_by p xs + (if p x then 1 else 0)
count_more p xs x = omega (arith, sum_by-append (λ y. if p y then 1 else 0) xs (x ∷ []), sum_by-cons (λ y. if p y then 1 else 0) x [])

-- What holds of all and of one more holds of all these.
all_more : {X : Type 0} (P : X → Type 0) (xs : List X) (x : X) → AllByRecursion P xs → P x → AllByRecursion P (xs ++ x ∷ [])
all_more P [] x a p = (p, tt)
all_more P (y ∷ ys) x a p = (a.0, all_more P ys x a.1 p)

-- A look is of one kind.
one_kind : (room : ℕ) (x : Walk) → (if is_whole x then 1 else 0) + (if is_stopped room x then 1 else 0) + (if is_short room x then 1 else 0) ≡ 1
one_kind room x = go (eqb x.cursor 0) (nat_lt (length x.passed) room) where
  go : (b c : Bool) → (if b then 1 else 0) + (if (if b then false else c) then 1 else 0) + (if (if b then false else (if c then false else true)) then 1 else 0) ≡ 1
  go true c = refl
  go false true = refl
  go false false = refl

-- What a pass has to find is the same if its entries and what it was told of are the same.
same_due : (v w : View) (x : Walk) → w.entries ≡ v.entries → w.told ≡ v.told → FindsDue w x → FindsDue v x
same_due v w x e t f = record {
  due = f.due ∙ ap₂ (λ (es ts : List Entry). at_pixel x.pixel (linked_of es ++ ts)) e t;
  met = f.met;
}

module _ (room : ℕ) (places : List ℕ) (turn : ℕ) (x : Walk) (v w u : View) (old new : Looks) (before : Looked room places v w old turn) (o : LooksOnce room (turn_at places turn) x w u old new) where
  abbrev l : LooksAround room places v w old
  l = before.0

  longer : length (l.walks ++ x ∷ []) ≡ turn + 1
  longer = length-append l.walks (x ∷ []) ∙ ap (λ (n : ℕ). n + 1) before.1

  -- its pixel is the next one
  next : map (λ y. y.pixel) (l.walks ++ x ∷ []) ≡ map (turn_at places) (range_with_len 0 (length (l.walks ++ x ∷ [])))
  next =
      map-append (λ (y : Walk). y.pixel) l.walks (x ∷ [])
      ∙ (ap₂ (λ (ps qs : List ℕ). ps ++ qs) (l.turns ∙ ap (λ (n : ℕ). map (turn_at places) (range_with_len 0 n)) before.1) (ap (λ (p : ℕ). p ∷ []) o.here)
      ∙ (sym (map-range_with_len_more (turn_at places) 0 turn turn (omega arith)) ∙ sym (ap (λ (n : ℕ). map (turn_at places) (range_with_len 0 n)) longer)))

  -- A look at the next pixel is the next of the looks around.
  pub looks_more : Looked room places v u new (turn + 1)
  looks_more = let a = l.saw in let b = o.saw in let i = l.counts in let since = l.before in let between = l.between in let after = l.after in let seen = b.seen in let first = o.first in let last = o.last in let start = a.seen in (
    record {
      walks = l.walks ++ x ∷ [];
      saw = record {
        credit = b.credit ∙ a.credit;
        entries = b.entries ∙ a.entries;
        told = b.told ∙ a.told;
        seen = omega arith;
        walks_are = b.walks_are ∙ (ap (λ (xs : List Walk). xs ++ x ∷ []) a.walks_are ∙ append_assoc v.walks l.walks (x ∷ []));
      };
      turns = next;
      found = all_more (FindsDue v) l.walks x l.found (same_due v w x a.entries a.told o.found);
      counts = record {
        whole = omega (arith, o.whole, i.whole, count_more is_whole l.walks x);
        unlinked = omega (arith, o.unlinked, i.unlinked, count_more (is_stopped room) l.walks x);
        more = omega (arith, o.more, i.more, count_more (is_short room) l.walks x);
        all = omega (arith, o.whole, o.unlinked, o.more, i.all, one_kind room x, longer, before.1);
      };
      before = omega arith;
      between = omega arith;
      after = last;
    },
    longer,
  )
