use Rattle.std.proofs.Common.{◌≡◌, ◌∙◌, ⊎_elim, true}
use Rattle.clap.specs.Words.{app_of, is_simple}
use Rattle.clap.proofs.WalkLemmas.{both}
use Rattle.abuf_cli.proofs.Matching.{none_from, some_from}
use Rattle.abuf_cli.proofs.parsing.parse.Goals as goal

pub returns-in-Ok-clause-found : goal.returns-in-Ok-clause-found
returns-in-Ok-clause-found c =
    let simple : is_simple (app_of c.args.command) ≡ true = (both _ _ c.requires).0 in
    some_from _ _ _ (c.in-Ok.ensures.kinds c.requires) (c.in-Ok.ensures.matches simple).0

pub returns : goal.returns
returns c = record {
  found = tt;
  cause = tt;
  none = λ _. ⊎_elim (λ memory. absurd (c.in_default.not-OutOfMemory (c.kind.ensures ∙ memory))) (λ among. none_from _ _ _ among) (c.in-Err.ensures.kinds c.requires);
}
