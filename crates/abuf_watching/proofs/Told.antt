-- What a whole run tells.
use Rattle.std.proofs.Common.{◌≡◌, ◌∙◌, ◌++◌, ℕ, List, Result, Ok, Err, IfOk, subst}
use Rattle.std.specs.String.{string_bytes}
use Rattle.abuf_num.specs.declared.plain.Paint.{Paint}
use Rattle.abuf_raster.specs.declared.pattern.Pattern.{Pattern}
use Rattle.abuf_raster.specs.Region.{Region}
use Rattle.abuf_raster.specs.Triangle.{Triangle}
use Rattle.abuf_cli.specs.Job.{Job}
use Rattle.abuf_cli.specs.declared.job.WordFault.{WordFault}
use Rattle.abuf_watching.specs.declared.looks.Looks.{Looks}
use Rattle.abuf_watching.specs.declared.show.WatchOutput.{WatchOutput}
use Rattle.abuf_watching.specs.declared.stop.Stop.{Stop}
use Rattle.abuf_watching.specs.Grid.{grid}
use Rattle.abuf_watching.specs.Report.{report_text}
use Rattle.abuf_watching.specs.Show.{IsOneImage, IsRunOf, IsWatchOf, TellsLooks, image_of}

-- The looks of a drawing are those of another that is the same.
same_looks : (ts us : List Triangle) (p q : Pattern) (r s : Region) (places grid : List ℕ) (looks : Looks) → ts ≡ us → p ≡ q → r ≡ s → places ≡ grid → TellsLooks ts p r places looks → TellsLooks us q s grid looks
same_looks ts us p q r s places grid looks t e f g told =
    subst (λ (x : List Triangle). TellsLooks x q s grid looks) t
    (subst (λ (x : Pattern). TellsLooks ts x s grid looks) e
    (subst (λ (x : Region). TellsLooks ts p x grid looks) f
    (subst (λ (x : List ℕ). TellsLooks ts p r x looks) g told)))

-- What is told of a drawing is told of the job that it was made of.
pub watch_of : (j : Job) (ts us : List Triangle) (ps qs : List Paint) (p : Pattern) (b : List ℕ) (r : Region) (places : List ℕ) (result : Result WatchOutput Stop)
    → ts ≡ us → ps ≡ qs → p ≡ j.pattern → b ≡ j.background → r ≡ image_of j → places ≡ grid r
    → IfOk result (λ s. string_bytes s.report ≡ report_text ts ps p b r places) → IfOk result (λ s. TellsLooks ts p r places s.looks)
    → IfOk result (λ s. IsWatchOf j us qs (string_bytes s.report) s.looks)
watch_of j ts us ps qs p b r places (Ok s) t a e c f g told looked =
    let all : places ≡ grid (image_of j) = subst (λ (x : Region). places ≡ grid x) f g in
    record {
      tells = told ∙ (λ i. report_text (t i) (a i) (e i) (c i) (f i) (all i));
      looked = same_looks ts us p j.pattern r (image_of j) places (grid (image_of j)) s.looks t e f all looked;
    }
watch_of j ts us ps qs p b r places (Err stop) t a e c f g told looked = tt

-- A run tells what its words' job tells.
pub run_of : (answer : Result Job WordFault) (j : Job) (ts : List Triangle) (ps : List Paint) (result : Result WatchOutput Stop) → answer ≡ Ok j → IsOneImage j
    → IfOk result (λ s. IsWatchOf j ts ps (string_bytes s.report) s.looks) → IfOk result (λ s. IsRunOf answer (string_bytes s.report) s.looks)
run_of answer j ts ps (Ok s) is one told = rw is (one, ts, ps, told)
run_of answer j ts ps (Err stop) is one told = tt
