-- When the state of a frame is lawful. This holds between any two atomic steps, for any number of passes in any threads, with
-- partly linked lists in it. A state has the words and the views of all passes that were ever made.
use Rattle.std.specs.Prelude.{◌≡◌, ℕ, ◌+◌, ◌*◌, ◌^◌, ◌<◌, ◌≤◌, true, false, List, [], ◌∷◌, length, sum_by, slice_index}
use mathlib.Core.Option.{some}
use lib.ListN.{get_elem?}
use Rattle.std.specs.List.{AllByRecursion}
use Rattle.atomic_table.specs.Table.{State}
use Rattle.abuf_frame.specs.declared.view.Stage.{Stage}
use Rattle.abuf_frame.specs.declared.view.Stage.TheVariants.{Claimed, Lost}
use Rattle.abuf_frame.specs.declared.view.Entry.{Entry}
use Rattle.abuf_frame.specs.declared.view.Walk.{Walk}
use Rattle.abuf_frame.specs.declared.view.View.{View}
use Rattle.abuf_frame.specs.declared.view.FrameSize.{FrameSize}
use Rattle.abuf_num.specs.Counting.{times, below}
use Rattle.abuf_frame.specs.Words.{head_word, payload_word, next_word}
use Rattle.abuf_frame.specs.Stages.{is_linked, is_lost, stands, Precedes, Stores, next_of}
use Rattle.abuf_frame.specs.Views.{endowment, numbers}
use Rattle.abuf_frame.specs.Walks.{head_of, IsWalk}

-- the entries have the stages of their numbers
abbrev pub Agree : (ℕ → Stage) → List Entry → Type 0
Agree stage es = AllByRecursion (λ e. e.stage ≡ stage e.number) es

-- the entries have the stages of their numbers, and are Linked
abbrev pub Told : (ℕ → Stage) → List Entry → Type 0
Told stage es = AllByRecursion (λ e. (e.stage ≡ stage e.number) × (is_linked e.stage ≡ true)) es

-- the nodes stand in the list of the pixel, and the old head of each refers to the one that follows it
abbrev pub Follows : (ℕ → Stage) → ℕ → List ℕ → Type 0
Follows stage p [] = Unit {0}
Follows stage p (n ∷ ns) = Precedes (stage n) p (head_of ns) × Follows stage p ns

abbrev pub AreWalks : (ℕ → Stage) → (ℕ → List ℕ) → ℕ → List Walk → Type 0
AreWalks stage chain pixels ws = AllByRecursion (IsWalk stage chain pixels) ws

pub record Lawful (k : FrameSize) (s : State (Unit {0}) View) : Type 0 where
  -- Each number has a stage, whichever pass has its entry. A number with a node that nobody has claimed yet counts as Claimed.
  pub stage : ℕ → Stage
  -- Each pixel has a list of nodes, the newest first.
  pub chain : ℕ → List ℕ
  -- There are the counter, a head for each pixel, and a payload and a next for each node.
  pub wide : length s.words ≡ 1 + k.pixels + 2 * k.nodes
  -- The numbers of the entries of all passes are those below the counter, each once, so the counter is their count.
  pub once : (n : ℕ) → sum_by (λ v. times n (numbers v)) s.views ≡ below n (slice_index s.words 0)
  pub counted : sum_by (λ v. length v.entries) s.views ≡ slice_index s.words 0
  pub agree : (j : ℕ) (v : View) → get_elem? s.views j ≡ some v → Agree stage v.entries
  pub fresh : (n : ℕ) → slice_index s.words 0 ≤ n → n < k.nodes → stage n ≡ Claimed
  -- An entry is Lost exactly where there is no node of its number.
  pub lost : (n : ℕ) → k.nodes ≤ n → stage n ≡ Lost
  pub kept : (n : ℕ) → n < k.nodes → is_lost (stage n) ≡ false
  -- The endowments of all passes add up to 2 ^ 60.
  pub endowed : sum_by endowment s.views ≡ 2 ^ 60
  -- From Filled to Linked, the payload word of the node is the payload, and the pixel is one of the frame's.
  pub payload : (n : ℕ) → Stores k.pixels (slice_index s.words (payload_word k.pixels n)) (stage n)
  -- The next word is the old head where the entry is Linked, and the mark where it is not, or where there is none.
  pub next : (n : ℕ) → n < k.nodes → slice_index s.words (next_word k.pixels n) ≡ next_of (stage n)
  -- The head of a pixel refers to the first node of its list, the old head of each node to the next one, and the list has
  -- exactly the Swapped and Linked entries of the pixel, each once.
  pub head : (p : ℕ) → p < k.pixels → slice_index s.words (head_word p) ≡ head_of (chain p)
  pub follows : (p : ℕ) → p < k.pixels → Follows stage p (chain p)
  pub exact : (p n : ℕ) → p < k.pixels → times n (chain p) ≡ stands p (stage n)
  -- What a pass was told of stands as a Linked entry, equal in every part.
  pub told : (j : ℕ) (v : View) → get_elem? s.views j ≡ some v → Told stage v.told
  -- A count that was seen is at most the counter.
  pub seen : (j : ℕ) (v : View) → get_elem? s.views j ≡ some v → v.seen ≤ slice_index s.words 0
  -- Each walk has passed the front of a suffix of its list, and its due entries are in that suffix.
  pub walked : (j : ℕ) (v : View) → get_elem? s.views j ≡ some v → AreWalks stage chain k.pixels v.walks
