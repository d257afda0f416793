-- Plans that grow.
use Rattle.std.proofs.Common.{◌≡◌, true, List, [], ◌∷◌, ◌++◌, refl}
use Rattle.std.proofs.lemmas.List.Folds.{list_all-append}
use Rattle.abuf_io.specs.Plans.{IsPlan, lets_some}
use Rattle.abuf_io.specs.declared.plan.Step.{Step}

-- a plan stays one with a further step
pub longer : (plan : List Step) (step : Step) → IsPlan plan → lets_some step ≡ true → IsPlan (plan ++ step ∷ [])
longer plan step is lets = rw (list_all-append lets_some plan (step ∷ [])) (rw is (rw lets refl))
