use Rattle.std.proofs.Common.{◌≡◌, ◌∙◌, sym}
use Rattle.abuf_text.specs.Statement.{statement, arguments}
use Rattle.abuf_mtl.specs.Said.{keyword_of}
use Rattle.abuf_mtl.specs.declared.keyword.Keyword.TheVariants as keyword
use Rattle.abuf_mtl.proofs.reader.MtlReader.take.Goals as goal

pub returns-in-Material-clause-fault : goal.returns-in-Material-clause-fault
returns-in-Material-clause-fault c =
    let word : keyword_of (statement c.args.line.now) ≡ keyword.Material = sym c.split_line-keyword.ensures.keyword ∙ c.in-Material.is in
    rw word (rw (← c.rest.ensures) c.start.ensures.fault)

pub returns-in-Material-clause-ok : goal.returns-in-Material-clause-ok
returns-in-Material-clause-ok c =
    let word : keyword_of (statement c.args.line.now) ≡ keyword.Material = sym c.split_line-keyword.ensures.keyword ∙ c.in-Material.is in
    rw word (rw (← c.rest.ensures) (c.start.ensures.ok (arguments c.args.line.now)))
