-- The path of a sequence, from the shelf.
use Rattle.std.specs.Prelude.{ℕ, nat_lt, List, length, Option, Some, None, Result, Ok, Err, if◌then◌else◌}
use Rattle.abuf_num.specs.declared.limits.TheConstants.{MAX_PATH_BYTES}
use Rattle.abuf_sequence.specs.Paths.{path}
use Rattle.abuf_sequence.specs.declared.path.PathFault.{PathFault}
use Rattle.abuf_sequence.specs.declared.path.PathFault.TheVariants as fault
use Rattle.abuf_sequence.specs.declared.path.Shot.{Shot}
use Rattle.abuf_top.specs.declared.stop.Refusal.{Refusal}
use Rattle.abuf_top.specs.declared.stop.Refusal.TheVariants.{PathMissing, PathTooLong, PathLine}

-- `Memory` never stands in a path.
abbrev pub path_refusal : PathFault → Refusal
path_refusal (fault.Line line why) = PathLine line why
path_refusal fault.Memory = PathMissing

abbrev pub shots_by : Result (List Shot) PathFault → Result (List Shot) Refusal
shots_by (Ok shots) = Ok shots
shots_by (Err fault) = Err (path_refusal fault)

-- The shots of what is held under the name of a path, or what refuses it: it isn't held, it has more bytes than a path may, or its
-- first faulty line.
abbrev pub path_verdict : Option (List ℕ) → Result (List Shot) Refusal
path_verdict None = Err PathMissing
path_verdict (Some content) = if nat_lt MAX_PATH_BYTES (length content) then Err PathTooLong else shots_by (path content)
