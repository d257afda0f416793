use Rattle.std.proofs.Common.{◌≡◌, map, take}
use Rattle.std.specs.List.{All}
use Rattle.abuf_sequence.specs.declared.job.Job.{Job}
use Rattle.abuf_sequence.specs.Paths.{IsShot}
use Rattle.abuf_sequence.specs.Batches.{shot_of}
use Rattle.abuf_sequence.proofs.writing.jobs_of.Given as goal

abbrev pub invariant-loop-shot : goal.invariant-loop-shot
invariant-loop-shot l = record {
  shots : map shot_of l.jobs.items ≡ take l.shot-index l.shots;
  each : All (λ (job : Job). IsShot job.shot) l.jobs.items;
}
