use Rattle.abuf_obj.proofs.Leading.{element_is_plain}
use Rattle.abuf_obj.proofs.element.next_vertex.Goals as goal

pub behind-requires-clause-token : goal.behind-requires-clause-token
behind-requires-clause-token c =
    let element = c.in-Some in
    element_is_plain c.text-text.result.now element.element.length element.ensures.some element.ensures.within element.ensures.bytes
