use Rattle.std.proofs.Common.{◌≡◌, false, sym, ◌∙◌}
use Rattle.std.proofs.lemmas.Bool.{false≢true}
use Rattle.abuf_io.specs.Fetching.{is_listed}
use Rattle.abuf_io.proofs.memory.MemShelfShelf.fetch.Goals as goal

pub returns-clause-fails : goal.returns-clause-fails
returns-clause-fails c =
    let unlisted : is_listed c.args.self.now.fails c.args.self.now.calls ≡ false =
    rw (← c.as_slice.ensures, ← c.min.ensures) (sym c.contains.ensures.value ∙ c.if-contains.false) in
    (λ failed. absurd (c.copy.ensures.steady failed), λ listed. absurd (false≢true (sym unlisted ∙ listed)))
