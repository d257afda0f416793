-- What the process does, from its arguments to its exit code.
use Rattle.std.specs.Prelude.{◌≡◌, ℕ, List, [], map, drop, String, Result, Ok, Err}
use Rattle.std.specs.String.{string_bytes}
use Rattle.std.specs.Vec.Iter.{into_iter_items}
use Rattle.std.specs.IoError.{error_kind}
use Rattle.std.specs.Process.{exit_status}
use Rattle.std.specs.declared.alloc.Global.{Global}
use Rattle.std.specs.declared.vec.IntoIter.{IntoIter}
use Rattle.std.specs.declared.io.Error.{Error}
use Rattle.std.specs.declared.io.ErrorKind.TheVariants.{OutOfMemory}
use Rattle.std.specs.declared.process.ExitCode.{ExitCode}
use Rattle.abuf_top.specs.Outside.{Outside}
use Rattle.abuf_top.specs.Promise.{IsRun}
use Rattle.abuf_top.specs.declared.top.Ran.{Ran}

-- The words of a run: the arguments after the first, which is the program's name. There are none where one of the arguments
-- isn't UTF-8. Where memory ran out for them, nothing is known of them, and these may be any.
abbrev pub AreWords : Result (IntoIter (String Global) Global) Error → List (List ℕ) → Type 0
AreWords (Ok args) words = words ≡ map string_bytes (drop 1 (into_iter_items args))
AreWords (Err error) words = (error_kind error ≡ OutOfMemory → ⊥) → words ≡ []

-- The start of a process with these arguments, which answers this exit code, and finds and leaves this outside. The code is the
-- status of a run of the words. Where nothing is known of these, it is that of a run of any words: then it is 8, since no other
-- status comes both with words that give a job and with words that give none.
pub record IsStart (args : Result (IntoIter (String Global) Global) Error) (code : ExitCode) (o : Outside) : Type 0 where
  pub ran : Ran
  pub status : exit_status code ≡ ran.status
  pub run : (words : List (List ℕ)) → AreWords args words → IsRun words ran o
