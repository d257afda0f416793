-- What each step makes of the view of its pass.
use Rattle.std.specs.Prelude.{ℕ, zero, suc, ◌+◌, ◌-◌, max, if◌then◌else◌, ◌==◌, nat_lt, List, [], ◌∷◌, ◌++◌, length}
use Rattle.abuf_frame.specs.declared.view.Stage.{Stage}
use Rattle.abuf_frame.specs.declared.view.Stage.TheVariants.{Claimed, Lost}
use Rattle.abuf_frame.specs.declared.view.Entry.{Entry}
use Rattle.abuf_frame.specs.declared.view.View.{View}
use Rattle.abuf_frame.specs.Views.{linked_of}

-- the entry of a number that was just claimed: Lost where there is no node for it
abbrev pub new_entry : ℕ → ℕ → Entry
new_entry nodes n = record { number = n; stage = if nat_lt n nodes then Claimed else Lost }

-- the entries of so many numbers from `first` on
abbrev pub new_entries : ℕ → ℕ → ℕ → List Entry
new_entries nodes first zero = []
new_entries nodes first (suc count) = new_entry nodes first ∷ new_entries nodes (first + 1) count

-- after some of the credit was spent on these entries
abbrev pub grown : List Entry → View → View
grown es v = record { credit = v.credit - length es; entries = v.entries ++ es; told = v.told; seen = v.seen; walks = v.walks }

-- after a claim of so many numbers, of which the first is this one
abbrev pub claimed : ℕ → ℕ → ℕ → View → View
claimed nodes first count v = record { credit = v.credit - count; entries = v.entries ++ new_entries nodes first count; told = v.told; seen = v.seen; walks = v.walks }

-- the entries with f of the stage of entry n
abbrev pub restage : ℕ → (Stage → Stage) → List Entry → List Entry
restage n f [] = []
restage n f (e ∷ es) = record { number = e.number; stage = if e.number == n then f e.stage else e.stage } ∷ restage n f es

-- after the entry n went on by f, and nothing else
abbrev pub moved : ℕ → (Stage → Stage) → View → View
moved n f v = record { credit = v.credit; entries = restage n f v.entries; told = v.told; seen = v.seen; walks = v.walks }

-- after a split, the pass itself: it has lost the credit and nothing else
abbrev pub split_left : ℕ → View → View
split_left credit v = record { credit = v.credit - credit; entries = v.entries; told = v.told; seen = v.seen; walks = v.walks }

-- after a split, the new pass: it has the credit, and was told of the Linked and told entries of the other
abbrev pub split_right : ℕ → View → View
split_right credit v = record { credit = credit; entries = []; told = linked_of v.entries ++ v.told; seen = v.seen; walks = [] }

-- after a join, the pass itself: credits and entries are added, what was told is united, and the greater count is kept
abbrev pub united : View → View → View
united v w = record { credit = v.credit + w.credit; entries = v.entries ++ w.entries; told = v.told ++ w.told; seen = max v.seen w.seen; walks = v.walks ++ w.walks }

-- after a load of the counter
abbrev pub having_seen : ℕ → View → View
having_seen count v = record { credit = v.credit; entries = v.entries; told = v.told; seen = count; walks = v.walks }
