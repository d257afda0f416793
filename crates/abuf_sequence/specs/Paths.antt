-- The path of a sequence: a text with one image on each line that isn't blank.
use Rattle.std.specs.Prelude.{◌≡◌, ℕ, ◌+◌, ℤ, nat_lt, List, [], ◌∷◌, ◌++◌, length, flat_map, option_to_list, Option, Some, None, Result, Ok, Err, if◌then◌else◌}
use Rattle.abuf_num.specs.declared.limits.TheConstants.{MAX_IMAGES}
use Rattle.abuf_num.specs.Texts.{scaled_number}
use Rattle.abuf_text.specs.Lines.{lines}
use Rattle.abuf_text.specs.Statement.{statement}
use Rattle.abuf_view.specs.Camera.{IsTurn, IsBounded, quaternion_of, point_of}
use Rattle.abuf_view.specs.Turns.{turn_component, turn_from}
use Rattle.abuf_sequence.specs.declared.path.Shot.{Shot}
use Rattle.abuf_sequence.specs.declared.path.PathWhy.{PathWhy}
use Rattle.abuf_sequence.specs.declared.path.PathWhy.TheVariants as why_
use Rattle.abuf_sequence.specs.declared.path.PathFault.{PathFault}
use Rattle.abuf_sequence.specs.declared.path.PathFault.TheVariants as fault

-- A shift, where its three coordinates are numbers.
abbrev pub shift_from : Option ℤ → Option ℤ → Option ℤ → Option (List ℤ)
shift_from None y z = None
shift_from (Some x) None z = None
shift_from (Some x) (Some y) None = None
shift_from (Some x) (Some y) (Some z) = Some (x ∷ y ∷ z ∷ [])

-- The shot of a turn and a shift. A bad turn is named before a bad shift.
abbrev pub shot_from : Option (List ℤ) → Option (List ℤ) → Result (Option Shot) PathWhy
shot_from None shift = Err why_.BadTurn
shot_from (Some turn) None = Err why_.BadNumber
shot_from (Some turn) (Some shift) = Ok (Some (record { turn = turn; shift = shift }))

-- What the tokens of a line say by themselves: nothing on a blank line, else the four components of a turn, and the three of a
-- shift in decimal, taken times 65536.
abbrev pub said : List (List ℕ) → Result (Option Shot) PathWhy
said [] = Ok None
said (a ∷ b ∷ c ∷ d ∷ x ∷ y ∷ z ∷ []) =
    shot_from (turn_from (turn_component a) (turn_component b) (turn_component c) (turn_component d)) (shift_from (scaled_number 65536 x) (scaled_number 65536 y) (scaled_number 65536 z))
said tokens = Err why_.WrongCount

abbrev pub shots_by : Result (Option Shot) PathWhy → List Shot
shots_by (Ok shot) = option_to_list shot
shots_by (Err why) = []

-- The shots of these lines, in order: one of each line that has one.
abbrev pub shots_on : List (List ℕ) → List Shot
shots_on lines = flat_map (λ line. shots_by (said (statement line))) lines

-- A path has at most 4096 shots, so a further one is refused.
abbrev pub why_by : ℕ → Result (Option Shot) PathWhy → Option PathWhy
why_by above (Ok None) = None
why_by above (Ok (Some shot)) = if nat_lt above MAX_IMAGES then None else Some why_.TooMany
why_by above (Err why) = Some why

-- Why a line is refused that has so many shots above it, if it is.
abbrev pub why : ℕ → List ℕ → Option PathWhy
why above line = why_by above (said (statement line))

-- What reading a line answers that has so many shots above it.
abbrev pub IsShotOn : ℕ → List ℕ → Result (Option Shot) PathWhy → Type 0
IsShotOn above line (Ok shot) = (said (statement line) ≡ Ok shot) × (why above line ≡ None)
IsShotOn above line (Err cause) = why above line ≡ Some cause

abbrev pub fault_or : ℕ → Option PathWhy → Option (ℕ × PathWhy) → Option (ℕ × PathWhy)
fault_or number None later = later
fault_or number (Some cause) later = Some (number, cause)

-- The first refused line of those that follow others: its number, from 1, and why.
abbrev pub fault_from : List (List ℕ) → List (List ℕ) → Option (ℕ × PathWhy)
fault_from before [] = None
fault_from before (line ∷ later) = fault_or (length before + 1) (why (length (shots_on before)) line) (fault_from (before ++ line ∷ []) later)

abbrev pub shots_or : Option (ℕ × PathWhy) → List Shot → Result (List Shot) PathFault
shots_or None shots = Ok shots
shots_or (Some refused) shots = Err (fault.Line refused.0 refused.1)

-- The shots of a path, or its first refused line.
unfoldable pub path : List ℕ → Result (List Shot) PathFault
path bytes = shots_or (fault_from [] (lines bytes)) (shots_on (lines bytes))

-- An answer is that of the path. Memory may run out at any path.
abbrev pub IsPath : List ℕ → Result (List Shot) PathFault → Type 0
IsPath bytes (Ok shots) = path bytes ≡ Ok shots
IsPath bytes (Err (fault.Line line cause)) = path bytes ≡ Err (fault.Line line cause)
IsPath bytes (Err fault.Memory) = Unit {0}

-- What every shot keeps to: a turn whose components are from -1024 to 1024 and not all 0, and a shift of at most 2147483647 either way.
abbrev pub IsShot : Shot → Type 0
IsShot shot = IsTurn (quaternion_of shot.turn) × IsBounded (point_of shot.shift)
