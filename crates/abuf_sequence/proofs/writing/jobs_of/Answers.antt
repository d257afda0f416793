use Rattle.std.proofs.Common.{ℕ, List, [], ◌∷◌, ◌++◌, ◌∙◌, map, take, sym, subst, ap}
use Rattle.std.proofs.lemmas.List.{map-append, take_more}
use Rattle.std.proofs.lemmas.List.Elements.{All-same, All-push}
use Rattle.abuf_sequence.specs.declared.job.Job.{Job}
use Rattle.abuf_sequence.specs.declared.path.Shot.{Shot}
use Rattle.abuf_sequence.specs.Paths.{IsShot}
use Rattle.abuf_sequence.specs.Batches.{shot_of}
use Rattle.abuf_sequence.proofs.writing.jobs_of.Goals as goal

pub loop-shot-preserved : goal.loop-shot-preserved
loop-shot-preserved c =
    let P : Job → Type 0 = λ job. IsShot job.shot in
    let xs : List Job = c.loop-shot.jobs.items in
    let at : ℕ = c.loop-shot.shot-index in
    let shots : List Shot = c.args.shots.now in
    let job : Job = c.job_of-job.result in
    let inside = c.loop-shot-test.true in
    let pushed = c.in_ok-push.ensures.items in
    record {
      shots = ap (map shot_of) pushed ∙ (map-append shot_of xs (job ∷ []) ∙ (ap (λ (l : List Shot). l ++ job.shot ∷ []) c.loop-shot.invariant.shots
          ∙ (ap (λ (s : Shot). take at shots ++ s ∷ []) c.job_of-job.ensures ∙ sym (take_more shots at _ inside))));
      each = All-same P c.push.new.self.items (xs ++ job ∷ []) pushed (All-push P xs job c.loop-shot.invariant.each (subst IsShot (sym c.job_of-job.ensures) (c.requires at _ inside)));
    }
