-- What a drawing writes by the lists of its frame is what the definition says, where the way agrees with that.
use Rattle.std.proofs.Common.{take, IfOk, MatchResult, true, true≢false, subst, ◌≡◌, ◌≤◌, ℕ, Bool, false, nat_lt, List, Option, None, Some, Result, Ok, Err, if◌then◌else◌, refl, sym, ap, ◌∙◌, arith}
use Rattle.std.proofs.lemmas.Bool.{le-ltb}
use Rattle.std.specs.Io.KnownBytes.{Appends}
use Rattle.abuf_io.specs.Sinks.{Taken}
use Rattle.abuf_frame.specs.Closing.{Ended}
use Rattle.abuf_num.specs.declared.plain.PixelSum.{PixelSum}
use Rattle.abuf_resolve.specs.declared.shading.spans.Resolved.{Resolved}
use Rattle.abuf_cli.specs.declared.job.Storage.TheVariants.{OneFrame}
use Rattle.abuf_cli.specs.declared.job.What.{What}
use Rattle.abuf_cli.specs.declared.job.What.TheVariants as what
use Rattle.abuf_picture.specs.declared.primitives.Primitives.{Primitives}
use Rattle.abuf_picture.specs.declared.target.Target.{Target}
use Rattle.abuf_picture.specs.Resolving.{Way, Agrees, subject, defined}
use Rattle.abuf_num.specs.declared.list.NoMemory.{NoMemory}
use Rattle.abuf_top.specs.Drawn.{IsOutputOf}
use Rattle.abuf_top.specs.Ending.{IsFrameOf, HandsBack, HasFrame, Produces}
use Rattle.abuf_top.specs.Image.{Drawing, has_one_frame, is_whole, region_of, image, total}
use Rattle.abuf_top.specs.Listed.{subject_of, image_from, summary_from, IsMadeOf, IsOutputBy, MayComeFrom, ProducesBy, WritesFrom}
use Rattle.abuf_top.specs.Output.{output, output_of}
use Rattle.abuf_top.specs.Summary.{summary, longest, values}
use Rattle.abuf_top.specs.Verdict.{pool_verdict, full_pool, or_output, write}
use Rattle.abuf_top.specs.declared.stop.FullPool.TheVariants as full
use Rattle.abuf_top.specs.declared.stop.Stop.{Stop}
use Rattle.abuf_top.specs.declared.stop.Stop.TheVariants as stop

-- What is resolved for a drawing is that of its primitives and its target.
pub subject-is : (d : Drawing) (p : Primitives) (t : Target) → p.triangles.now ≡ d.triangles → p.paints.now ≡ d.paints
    → t.pattern ≡ d.job.pattern → t.background ≡ d.job.background → t.region ≡ region_of d.job → subject p t ≡ subject_of d
subject-is d p t triangles paints pattern background region = λ j. record {
  triangles = triangles j;
  paints = paints j;
  pattern = pattern j;
  background = background j;
  region = region j;
}

module _ (way : Way) (d : Drawing) (c : Ended) (frame : IsFrameOf d c) (fit : c.fragments ≤ c.nodes) where
  -- What the way gives for the lists of the frame.
  abbrev given : Resolved
  given = way (subject_of d) c.lists

  pub is-defined : Agrees way (subject_of d) → given ≡ defined (subject_of d)
  is-defined agrees = agrees c.lists frame.each (frame.lists (omega (arith, frame.count, frame.nodes_are, fit)))

  pub image-is : Agrees way (subject_of d) → image_from d given.sums ≡ image d
  unfolding image image_from
  image-is agrees = ap (λ (all : Resolved). image_from d all.sums) (is-defined agrees)

  pub summary-is : Agrees way (subject_of d) → summary_from d given ≡ summary d
  unfolding image image_from summary summary_from longest values
  summary-is agrees = ap (summary_from d) (is-defined agrees)

  -- No pool is full where all fragments are in one frame, so the verdict is the output.
  pub verdict-is : d.job.storage ≡ OneFrame → (bytes : List ℕ) → output d ≡ bytes → pool_verdict d ≡ write bytes
  verdict-is stored bytes is =
      let fits : nat_lt d.job.nodes (total d) ≡ false = le-ltb d.job.nodes (total d) (omega (arith, frame.count, frame.nodes_are, fit)) in
      let none : full_pool d d.job.storage ≡ None =
      ap (full_pool d) stored ∙ ap (λ (b : Bool). if b then Some (full.Image (total d) d.job.nodes) else None) fits in
      ap (or_output d) none ∙ ap write is

  -- What was made of the lists, where memory was enough.
  pub made : d.job.storage ≡ OneFrame → (bytes : Result (List ℕ) NoMemory) (result : Result (List ℕ) Stop) (closed : Option Ended)
      → IfOk bytes (IsMadeOf d.what d given) → (Agrees way (subject_of d) → IfOk bytes (λ b. output d ≡ b))
      → MatchResult bytes (λ b. (result ≡ Ok b) × (closed ≡ Some c)) (λ _. (result ≡ Err stop.Memory) × (closed ≡ None))
      → IsOutputBy way d result closed
  made stored (Ok b) result closed is out ends =
      let one : has_one_frame d.job ≡ true = ap is_whole stored in
      subst (λ (r : Result (List ℕ) Stop). IsOutputBy way d r closed) (sym ends.0)
      (subst (IsOutputBy way d (Ok b)) (sym ends.1)
      (record {
        produced = λ agrees. verdict-is stored b (out agrees);
        listed = is;
        frame = frame;
        handed = subst (λ (w : Bool). HasFrame w (Some c)) (sym one) refl;
      }))
  made stored (Err e) result closed is out ends =
      subst (λ (r : Result (List ℕ) Stop). IsOutputBy way d r closed) (sym ends.0)
      (subst (IsOutputBy way d (Err stop.Memory)) (sym ends.1)
      (record { produced = tt; listed = tt; frame = tt; handed = refl }))

  image-made : d.what ≡ what.Render → (bytes : Result (List ℕ) NoMemory) (sums : List PixelSum) → sums ≡ given.sums
      → IfOk bytes (λ b. b ≡ image_from d sums) → IfOk bytes (IsMadeOf d.what d given)
  image-made is (Ok b) sums same made_of = subst (λ (w : What). IsMadeOf w d given b) (sym is) (made_of ∙ ap (image_from d) same)
  image-made is (Err e) sums same made_of = tt

  image-out : d.what ≡ what.Render → (bytes : Result (List ℕ) NoMemory) (sums : List PixelSum) → sums ≡ given.sums
      → IfOk bytes (λ b. b ≡ image_from d sums) → Agrees way (subject_of d) → IfOk bytes (λ b. output d ≡ b)
  image-out is (Ok b) sums same made_of agrees = ap (λ (w : What). output_of w d) is ∙ sym (made_of ∙ (ap (image_from d) same ∙ image-is agrees))
  image-out is (Err e) sums same made_of agrees = tt

  -- The image that `render` makes,
  pub rendered : d.what ≡ what.Render → d.job.storage ≡ OneFrame → (bytes : Result (List ℕ) NoMemory) (sums : List PixelSum) → sums ≡ given.sums
      → IfOk bytes (λ b. b ≡ image_from d sums) → (result : Result (List ℕ) Stop) (closed : Option Ended)
      → MatchResult bytes (λ b. (result ≡ Ok b) × (closed ≡ Some c)) (λ _. (result ≡ Err stop.Memory) × (closed ≡ None))
      → IsOutputBy way d result closed
  rendered is stored bytes sums same made_of result closed ends =
      made stored bytes result closed (image-made is bytes sums same made_of) (image-out is bytes sums same made_of) ends

  summary-made : (n : ℕ) → d.what ≡ what.Demo n → (bytes : Result (List ℕ) NoMemory) (all : Resolved) → all ≡ given
      → IfOk bytes (λ b. b ≡ summary_from d all) → IfOk bytes (IsMadeOf d.what d given)
  summary-made n is (Ok b) all same made_of = subst (λ (w : What). IsMadeOf w d given b) (sym is) (made_of ∙ ap (summary_from d) same)
  summary-made n is (Err e) all same made_of = tt

  summary-out : (n : ℕ) → d.what ≡ what.Demo n → (bytes : Result (List ℕ) NoMemory) (all : Resolved) → all ≡ given
      → IfOk bytes (λ b. b ≡ summary_from d all) → Agrees way (subject_of d) → IfOk bytes (λ b. output d ≡ b)
  summary-out n is (Ok b) all same made_of agrees = ap (λ (w : What). output_of w d) is ∙ sym (made_of ∙ (ap (summary_from d) same ∙ summary-is agrees))
  summary-out n is (Err e) all same made_of agrees = tt

  -- and the summary that `demo` makes.
  pub summarized : (n : ℕ) → d.what ≡ what.Demo n → d.job.storage ≡ OneFrame → (bytes : Result (List ℕ) NoMemory) (all : Resolved) → all ≡ given
      → IfOk bytes (λ b. b ≡ summary_from d all) → (result : Result (List ℕ) Stop) (closed : Option Ended)
      → MatchResult bytes (λ b. (result ≡ Ok b) × (closed ≡ Some c)) (λ _. (result ≡ Err stop.Memory) × (closed ≡ None))
      → IsOutputBy way d result closed
  summarized n is stored bytes all same made_of result closed ends =
      made stored bytes result closed (summary-made n is bytes all same made_of) (summary-out n is bytes all same made_of) ends

module _ (way : Way) (d : Drawing) where
  -- What is produced whatever the way is produced by this one.
  produced-by : (bytes : Result (List ℕ) Stop) → Produces (pool_verdict d) bytes → ProducesBy way d bytes
  produced-by (Ok b) h = λ agrees. h
  produced-by (Err s) h = h

  -- Where no lists are resolved by the way, nothing is said of them.
  none-listed : (bytes : Result (List ℕ) Stop) (closed : Option Ended) → HandsBack false bytes closed → MayComeFrom way d bytes closed
  none-listed (Ok b) None h = tt
  none-listed (Ok b) (Some c) h = absurd (true≢false h)
  none-listed (Err s) closed h = tt

  pub without-one-frame : (bytes : Result (List ℕ) Stop) (closed : Option Ended) → has_one_frame d.job ≡ false → IsOutputOf d bytes closed → IsOutputBy way d bytes closed
  without-one-frame bytes closed more h = record {
    produced = produced-by bytes h.produced;
    listed = none-listed bytes closed (subst (λ (w : Bool). HandsBack w bytes closed) more h.handed);
    frame = h.frame;
    handed = h.handed;
  }

  not-made : (x y : ℕ) (bytes : Result (List ℕ) Stop) (closed : Option Ended) → d.what ≡ what.Pick x y → MayComeFrom way d bytes closed
  not-made x y (Ok b) None is = tt
  not-made x y (Ok b) (Some c) is = subst (λ (w : What). IsMadeOf w d (way (subject_of d) c.lists) b) (sym is) tt
  not-made x y (Err s) closed is = tt

  pub of-pick : (x y : ℕ) (bytes : Result (List ℕ) Stop) (closed : Option Ended) → d.what ≡ what.Pick x y → IsOutputOf d bytes closed → IsOutputBy way d bytes closed
  of-pick x y bytes closed is h = record {
    produced = produced-by bytes h.produced;
    listed = not-made x y bytes closed is;
    frame = h.frame;
    handed = h.handed;
  }

  -- The output that was written whole,
  pub wrote-all : (old new now : Option (List ℕ)) (faults_old faults_new : ℕ) (bytes slice : List ℕ) (out : Result (List ℕ) Stop) (closed : Option Ended) (r q : Result (Unit {0}) Stop)
      → out ≡ Ok bytes → MayComeFrom way d out closed → slice ≡ bytes → new ≡ now → Appends old now slice → r ≡ q → q ≡ Ok tt
      → WritesFrom way d (record { old = old; new = new; faults_old = faults_old; faults_new = faults_new }) r closed
  wrote-all old new now faults_old faults_new bytes slice out closed r q is from same to appends ended ok =
      subst (λ (x : Result (Unit {0}) Stop). WritesFrom way d (record { old = old; new = new; faults_old = faults_old; faults_new = faults_new }) x closed) (sym (ended ∙ ok)) (
        bytes,
        subst (λ (x : Result (List ℕ) Stop). MayComeFrom way d x closed) is from,
        subst (λ (x : List ℕ). Appends old new x) same (subst (λ (x : Option (List ℕ)). Appends old x slice) (sym to) appends),
      )

  -- that of which a prefix was written,
  pub wrote-part : (old new now : Option (List ℕ)) (faults_old faults_new : ℕ) (bytes slice : List ℕ) (out : Result (List ℕ) Stop) (closed : Option Ended) (r q : Result (Unit {0}) Stop)
      → out ≡ Ok bytes → MayComeFrom way d out closed → slice ≡ bytes → new ≡ now → ((count : ℕ) × Appends old now (take count slice)) → r ≡ q → q ≡ Err stop.WriteFault
      → WritesFrom way d (record { old = old; new = new; faults_old = faults_old; faults_new = faults_new }) r closed
  wrote-part old new now faults_old faults_new bytes slice out closed r q is from same to part ended failed =
      subst (λ (x : Result (Unit {0}) Stop). WritesFrom way d (record { old = old; new = new; faults_old = faults_old; faults_new = faults_new }) x closed) (sym (ended ∙ failed)) (
        bytes,
        subst (λ (x : Result (List ℕ) Stop). MayComeFrom way d x closed) is from,
        (part.0, subst (λ (x : List ℕ). Appends old new (take part.0 x)) same (subst (λ (x : Option (List ℕ)). Appends old x (take part.0 slice)) (sym to) part.1)),
      )

  stopped : (out : Taken) (closed : Option Ended) (s : Stop) → ProducesBy way d (Err s) → WritesFrom way d out (Err s) closed
  stopped out closed stop.WriteFault p = absurd p
  stopped out closed _ p = tt

  -- and where a drawing stopped before.
  pub wrote-none : (sink : Taken) (out : Result (List ℕ) Stop) (closed : Option Ended) (s : Stop) (r : Result (Unit {0}) Stop)
      → out ≡ Err s → ProducesBy way d out → r ≡ Err s → WritesFrom way d sink r closed
  wrote-none sink out closed s r is p ended =
      subst (λ (x : Result (Unit {0}) Stop). WritesFrom way d sink x closed) (sym ended) (stopped sink closed s (subst (ProducesBy way d) is p))
