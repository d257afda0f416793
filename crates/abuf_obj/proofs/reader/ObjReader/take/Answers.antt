use Rattle.std.proofs.Common.{◌≡◌, ◌∙◌, sym}
use Rattle.abuf_text.specs.Statement.{statement, arguments}
use Rattle.abuf_text.specs.Rest.{rest}
use Rattle.abuf_obj.specs.Keywords.{keyword_of}
use Rattle.abuf_obj.specs.declared.keyword.Keyword.TheVariants as keyword
use Rattle.abuf_obj.proofs.reader.ObjReader.take.Goals as goal

pub returns-in-Vertex-clause-fault : goal.returns-in-Vertex-clause-fault
returns-in-Vertex-clause-fault c =
    let word : keyword_of (statement c.args.line.now) ≡ keyword.Vertex = sym c.split_line-keyword.ensures.keyword ∙ c.in-Vertex.is in
    rw word (rw (← c.split_line-keyword.ensures.arguments) (c.take_point.ensures.fault (rest c.args.line.now)))

pub returns-in-Face-clause-fault : goal.returns-in-Face-clause-fault
returns-in-Face-clause-fault c =
    let word : keyword_of (statement c.args.line.now) ≡ keyword.Face = sym c.split_line-keyword.ensures.keyword ∙ c.in-Face.is in
    rw word (rw (← c.split_line-keyword.ensures.arguments) (c.take_face.ensures.fault (rest c.args.line.now)))

pub returns-in-Material-clause-fault : goal.returns-in-Material-clause-fault
returns-in-Material-clause-fault c =
    let word : keyword_of (statement c.args.line.now) ≡ keyword.Material = sym c.split_line-keyword.ensures.keyword ∙ c.in-Material.is in
    rw word (rw (← c.rest.ensures) (c.take_material.ensures.fault (arguments c.args.line.now)))

pub returns-in-Library-clause-fault : goal.returns-in-Library-clause-fault
returns-in-Library-clause-fault c =
    let word : keyword_of (statement c.args.line.now) ≡ keyword.Library = sym c.split_line-keyword.ensures.keyword ∙ c.in-Library.is in
    rw word (rw (← c.rest-in-Library.ensures) (c.take_library.ensures.fault (arguments c.args.line.now)))
