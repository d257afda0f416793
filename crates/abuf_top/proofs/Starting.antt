-- The runs of a process.
use Rattle.std.proofs.Common.{◌≡◌, ◌≤◌, ◌+◌, ℕ, List, Option, Some, None, Err, IfSome, sym, subst, arith}
use Rattle.std.specs.Io.KnownBytes.{Keeps}
use Rattle.abuf_num.specs.declared.limits.TheConstants.{MAX_BYTES}
use Rattle.abuf_frame.specs.Closing.{Ended}
use Rattle.abuf_top.specs.Ending.{Concludes}
use Rattle.abuf_top.specs.Fetches.{CallsAtMost, demand}
use Rattle.abuf_top.specs.Outside.{Outside, told}
use Rattle.abuf_top.specs.Promise.{IsRun}
use Rattle.abuf_top.specs.Reads.{IsUncalled, TakesAtMost}
use Rattle.abuf_top.specs.Verdict.{task}
use Rattle.abuf_top.specs.declared.stop.Stop.TheVariants as stop
use Rattle.abuf_top.specs.declared.top.Ran.{Ran}
use Rattle.abuf_cli.specs.Jobs.{job}
use Rattle.abuf_top.proofs.Running.{run_stopped}

-- Nothing is asked of what stops a run that is out of memory.
any : {T : Type 0} (line : Option T) → IfSome line (λ _. Unit {0})
any None = tt
any (Some l) = tt

-- A shelf that isn't called is called as often as it may be.
uncalled : (n : Option ℕ) (a b c d : ℕ) → b ≡ a → d ≡ c → IfSome n (CallsAtMost a b c d)
uncalled None a b c d e f = tt
uncalled (Some n) a b c d e f = record { most = omega (arith, e); none = λ _. (e, f) }

few : (n : Option ℕ) (a b : ℕ) → b ≡ a → IfSome n (λ m. b ≤ a + m)
few None a b e = tt
few (Some n) a b e = omega (arith, e)

-- A run whose memory runs out before it reads is one of any words.
pub ran_out : (words : List (List ℕ)) (o : Outside) (closed : Option Ended) (ran : Ran)
    → IsUncalled o.source → TakesAtMost (MAX_BYTES + 1) o.source → o.shelf.calls_new ≡ o.shelf.calls_old → o.shelf.faults_new ≡ o.shelf.faults_old
    → Keeps o.out.old o.out.new → closed ≡ None → Concludes (Err stop.Memory) closed ran o.err → IsRun words ran o
ran_out words o closed ran still taken calls faults kept none c =
    run_stopped words o stop.Memory closed ran (record {
      as_told = any (task words o.source.left_old (told o.shelf));
      cause = tt;
      path = λ _. still;
      words_own = tt;
      calls = record {
        source = λ _. still;
        taken = taken;
        calls = uncalled (demand (job words) o.source.left_old (told o.shelf)).fetches _ _ _ _ calls faults;
        most = few (demand (job words) o.source.left_old (told o.shelf)).most _ _ calls;
      };
    }) kept none c

-- A run of words is one of all that are the same.
pub run_of_same : (words own : List (List ℕ)) (o : Outside) (ran : Ran) → words ≡ own → IsRun own ran o → IsRun words ran o
run_of_same words own o ran same run = subst (λ (w : List (List ℕ)). IsRun w ran o) (sym same) run
