-- Walks along a pixel's list while others draw. A walk has its pixel, the entries that were due in the list when it began,
-- the nodes passed with their payloads, the cursor, which is the word at which it stands, the payload noted there, and
-- whether its last load found the mark.
use Rattle.std.specs.Prelude.{◌≡◌, ℕ, ◌+◌, ◌-◌, ◌<◌, if◌then◌else◌, ◌==◌, Bool, true, false, List, [], ◌∷◌, ◌++◌, map, Option, Some, None}
use Rattle.std.specs.List.{AllByRecursion, Contains}
use Rattle.abuf_frame.specs.declared.view.Stage.{Stage}
use Rattle.abuf_frame.specs.declared.view.Entry.{Entry}
use Rattle.abuf_frame.specs.declared.view.Passed.{Passed}
use Rattle.abuf_frame.specs.declared.view.Walk.{Walk}
use Rattle.abuf_frame.specs.declared.view.View.{View}
use Rattle.abuf_num.specs.Counting.{times}
use Rattle.abuf_frame.specs.Words.{mark}
use Rattle.abuf_frame.specs.Stages.{payload_of}
use Rattle.abuf_frame.specs.Views.{number_of, due_of}

abbrev pub node_of : Passed → ℕ
node_of x = x.node

abbrev pub payload_at : Passed → ℕ
payload_at x = x.payload

-- the word that refers to the first of a list of nodes
abbrev pub head_of : List ℕ → ℕ
head_of [] = 0
head_of (n ∷ ns) = n + 1

-- after a load of the head of the pixel that found this word
abbrev pub new_walk : ℕ → ℕ → View → Walk
new_walk p found v = record { pixel = p; due = due_of p v; passed = []; cursor = found; noted = None; unlinked = false }

-- after a load of the payload at the cursor, which is noted and is no mark
abbrev pub noting : ℕ → Walk → Walk
noting payload w = record { pixel = w.pixel; due = w.due; passed = w.passed; cursor = w.cursor; noted = Some payload; unlinked = false }

abbrev pub payload_noted : Option ℕ → ℕ
payload_noted None = 0
payload_noted (Some payload) = payload

-- the walk at the mark, where it stays, or past the node at the cursor, at the word that was found
abbrev pub gone : Bool → ℕ → Walk → Walk
gone stays found w = record {
  pixel = w.pixel;
  due = w.due;
  passed = if stays then w.passed else w.passed ++ record { node = w.cursor - 1; payload = payload_noted w.noted } ∷ [];
  cursor = if stays then w.cursor else found;
  noted = if stays then w.noted else None;
  unlinked = stays;
}

-- after a load of the next at the cursor, whose payload is noted
abbrev pub going : ℕ → Walk → Walk
going found w = gone (found == mark) found w

abbrev pub IsNoted : Option ℕ → Type 0
IsNoted None = ⊥
IsNoted (Some payload) = Unit {0}

-- there is a last walk, and P holds of it
abbrev pub OnLast : (Walk → Type 0) → List Walk → Type 0
OnLast P [] = ⊥
OnLast P (w ∷ []) = P w
OnLast P (w ∷ x ∷ xs) = OnLast P (x ∷ xs)

-- the last walk has noted the payload at its cursor: the next is loaded only then
abbrev pub LastHasNoted : List Walk → Type 0
LastHasNoted ws = OnLast (λ w. IsNoted w.noted) ws

-- f of the last walk
abbrev pub on_last : (Walk → Walk) → List Walk → List Walk
on_last f [] = []
on_last f (w ∷ []) = f w ∷ []
on_last f (w ∷ x ∷ xs) = w ∷ on_last f (x ∷ xs)

-- after a step of the last walk, and after a new one began
abbrev pub walked_on : (Walk → Walk) → View → View
walked_on f v = record { credit = v.credit; entries = v.entries; told = v.told; seen = v.seen; walks = on_last f v.walks }

abbrev pub with_walk : Walk → View → View
with_walk w v = record { credit = v.credit; entries = v.entries; told = v.told; seen = v.seen; walks = v.walks ++ w ∷ [] }

-- the payload noted is that of the node at which the walk stands, and none is noted at the end
abbrev pub Noted : (ℕ → Stage) → Option ℕ → List ℕ → Type 0
Noted stage None ns = Unit {0}
Noted stage (Some payload) [] = ⊥
Noted stage (Some payload) (n ∷ ns) = payload ≡ payload_of (stage n)

-- the payloads of the nodes passed are those of their entries
abbrev pub AllPaid : (ℕ → Stage) → List Passed → Type 0
AllPaid stage xs = AllByRecursion (λ x. x.payload ≡ payload_of (stage x.node)) xs

-- Where numbers have these stages and pixels these lists: the pixel is one of the frame's, the nodes passed and the rest from
-- the cursor on are a suffix of its list, payloads are those of the entries, a walk that found the mark has noted the payload
-- there, and each due entry has been passed or is yet to come.
pub record IsWalk (stage : ℕ → Stage) (chain : ℕ → List ℕ) (pixels : ℕ) (w : Walk) : Type 0 where
  pub on : w.pixel < pixels
  pub before : List ℕ
  pub rest : List ℕ
  pub suffix : chain w.pixel ≡ before ++ (map node_of w.passed ++ rest)
  pub stands_at : w.cursor ≡ head_of rest
  pub paid : AllPaid stage w.passed
  pub note : Noted stage w.noted rest
  pub marked : w.unlinked ≡ true → IsNoted w.noted
  pub due : (n : ℕ) → 0 < times n (map number_of w.due) → 0 < times n (map node_of w.passed ++ rest)

-- the walk has passed the node of the entry, with its payload
abbrev pub HasPassed : Walk → Entry → Type 0
HasPassed w e = Contains w.passed (record { node = e.number; payload = payload_of e.stage })

-- the walk has passed each of its due entries
abbrev pub AllMet : Walk → Type 0
AllMet w = AllByRecursion (HasPassed w) w.due
